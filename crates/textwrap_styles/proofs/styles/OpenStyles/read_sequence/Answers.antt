use Rattle.textwrap_styles.proofs.styles.OpenStyles.read_sequence.Goals as goal
use Rattle.textwrap_styles.{proofs.Common.{open_settings, settings, settings_of}, specs.OpenStyles.AreOpen}
use Rattle.textwrap_styles.proofs.Sequences.{open_link-push, style-no_link}
use Rattle.textwrap_text.proofs.Common.{◌++◌, [], append-nil, arith, cases_Bool, filter-append, flat_map}
use Rattle.textwrap_text.proofs.Common.{flat_map-append, subst, sym, ◌∷◌, ◌≡◌}

pub returns-in_ok-read_parameters : goal.returns-in_ok-read_parameters
returns-in_ok-read_parameters g c = λ before state.
    let s = c.args.sequence.now in
    let style = sym c.in-Some.ensures.style in
    let plain = style-no_link s style in
    let all : flat_map settings_of before ++ settings c.in-Some.parameters.now
    ≡ flat_map settings_of (before ++ s ∷ []) =
    grind (arith, cases_Bool, append-nil, flat_map-append, style, c.in-Some.ensures.parameters) in
    record {
      settings = subst (λ ss. AreOpen (open_settings ss) c.read_parameters.new.self) all
          (c.in_ok-read_parameters.ensures.settings (flat_map settings_of before) state.settings);
      link = let push = open_link-push before s in
          grind (arith, cases_Bool, push, plain, c.read_parameters.ensures.link, state.link);
      links = grind (arith, cases_Bool, append-nil, filter-append, plain, c.read_parameters.ensures.links, state.links);
    }
