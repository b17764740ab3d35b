use Rattle.textwrap_styles.proofs.styles.OpenStyles.push_opening.Goals as goal
use Rattle.std.{proofs.lemmas.List.Folds.concat-append, specs.Option.{option_copied, option_to_list}}
use Rattle.textwrap_styles.proofs.{Common.{concat, open_styles, written}, LinkIds.kept-link}
use Rattle.textwrap_styles.{proofs.OpenSettings.texts, specs.Styles.reopened_link}
use Rattle.textwrap_styles.proofs.styles.OpenStyles.push_opening.Goals.{in-Some+in_ok-push_link, in_default}
use Rattle.textwrap_text.proofs.Common.{◌+◌, ◌++◌, ◌<◌, ap, append-nil, append_assoc, arith, Bor, codes}
use Rattle.textwrap_text.proofs.Common.{get_or, length, List, map, map-append, rules, string_bytes, sym, take}
use Rattle.textwrap_text.proofs.Common.{take_all, take_more, ℕ, ◌∙◌, ◌≡◌}

-- the settings so far, one after the other, and one more
written-more : (ss : List (Bor (List ℕ))) (n : ℕ) (d : Bor (List ℕ))
    (front old begun filled new : List ℕ) → n < length ss
    → old ≡ front ++ concat (map written (texts (take n ss))) → begun ≡ old ++ codes "\u{1b}["
    → filled ≡ begun ++ (get_or ss n d).now → new ≡ filled ++ codes "m"
    → new ≡ front ++ concat (map written (texts (take (n + 1) ss)))
written-more ss n d front old begun filled new within is starts sets ends =
    grind (arith, append-nil, append_assoc, map-append, concat-append, take_more ss n d within)

pub loop-setting-preserved : goal.loop-setting-preserved
loop-setting-preserved g c =
    written-more c.deref-setting-items.result.now c.loop-setting.setting-index _ _ _ _ _ _
    c.loop-setting-test.true c.loop-setting.invariant c.in_ok-push_str.ensures.bytes
    c.in_ok-push_str-2.ensures.bytes c.in_ok-push_str-3.ensures.bytes

pub returns : goal.returns
returns g c = λ before state.
    let old = string_bytes c.args.text.now in
    let link : string_bytes c.match-self.text ≡ old ++ concat (reopened_link before) =
    elim c.match-self.branch [
      | in-Some+in_ok-push_link w ↦
          let kept = kept-link before c.args.self.now.links w.in-Some.link.now
          (ap (λ l. option_to_list (option_copied l)) (sym w.in-Some.is) ∙ state.link) state.links in
          ap string_bytes w.text-is ∙ w.in_ok-push_link.ensures kept.0 ∙ ap (λ l. old ++ l) (sym kept.1)
      | in_default w ↦ search (rules, arith, append-nil, w.text-is, state.link)
    ] in
    let ss = c.deref-setting-items.result.now in
    let i = c.loop-setting.setting-index in
    let styles : concat (map written (texts (take i ss))) ≡ concat (open_styles before) =
    ap (λ l. concat (map written l)) (ap texts (take_all i ss (omega (arith, c.loop-setting-test.false))
    ∙ c.deref-setting-items.ensures.value) ∙ state.settings) in
    c.loop-setting.invariant ∙ ap (λ l. l ++ concat (map written (texts (take i ss)))) link
    ∙ append_assoc old (concat (reopened_link before)) (concat (map written (texts (take i ss))))
    ∙ ap (λ l. old ++ (concat (reopened_link before) ++ l)) styles
