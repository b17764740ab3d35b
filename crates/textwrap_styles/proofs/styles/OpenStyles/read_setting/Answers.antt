use Rattle.textwrap_styles.proofs.styles.OpenStyles.read_setting.Goals as goal
use Rattle.textwrap_styles.proofs.OpenSettings.{effect-push, open_settings-push, texts}
use Rattle.textwrap_text.proofs.Common.{[], ap, arith, Bor, cases_Bool, List, map-append, ℕ, ◌∙◌, ◌∷◌}

pub returns-in_ok-push-clause-settings : goal.returns-in_ok-push-clause-settings
returns-in_ok-push-clause-settings g c = λ before state.
    let s = c.args.setting.now in
    let old = c.args.self.now.settings.items in
    let pushed = ap texts c.in_ok-push.ensures.items
    ∙ map-append (λ (t : Bor (List ℕ)). t.now) old (c.args.setting ∷ []) in
    let push = effect-push (texts old) s in
    let open_push = open_settings-push before s in
    grind (arith, cases_Bool, pushed, push, open_push, state, c.if-is_reset.ensures, c.kind_of.ensures)
