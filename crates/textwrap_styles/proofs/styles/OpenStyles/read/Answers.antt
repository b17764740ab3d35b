use Rattle.textwrap_styles.proofs.styles.OpenStyles.read.Goals as goal
use Rattle.textwrap_layout.proofs.Text.Sinks.{on_ok_both}
use Rattle.textwrap_styles.proofs.Common.{is_link, IsKeptAfter, open_link, open_settings}
use Rattle.textwrap_styles.proofs.{Common.{sequences, settings_of}, OpenSettings.{effect-again}}
use Rattle.textwrap_styles.specs.{OpenStyles.IsReadTo, declared.styles.OpenStyles.OpenStyles}
use Rattle.textwrap_text.proofs.Common.{◌++◌, [], ap, append-nil, append_assoc, arith, filter, flat_map}
use Rattle.textwrap_text.proofs.Common.{length, List, refl, rules, sym, ℕ, ◌∙◌, ◌∷◌, ◌≡◌}
use Rattle.textwrap_text.specs.LentText.{as_len}

-- what is kept where a line begins is read up to there
kept-read : {Z : Type 0} (before : List (List ℕ)) (state : OpenStyles Z)
    → IsKeptAfter before state → IsReadTo before state
kept-read before state kept = search (rules, arith, effect-again)

pub loop-sequence-preserved : goal.loop-sequence-preserved
loop-sequence-preserved g c = record {
  takes = λ before state.
      let old = c.loop-sequence.invariant.takes before state in
      let one = c.in-Some.sequence.now ∷ [] in
      let read = rw append_assoc at (c.in_ok-read_sequence.ensures (before ++ old.0) old.1) in
      (old.0 ++ one, read, grind (arith, old.2, c.in-Some.ensures.sequences, append_assoc));
  utf8 = c.in-Some.ensures.utf8;
}

pub loop-sequence-init : goal.loop-sequence-init
loop-sequence-init g c = record {
  takes = λ before state. ([], rw append-nil (kept-read before c.args.self.now state), refl);
  utf8 = search rules;
}

pub returns : goal.returns
returns g c = λ before state.
    let all = c.loop-sequence.invariant.takes before state in
    let taken = all.0 in
    let text : taken ≡ sequences c.args.text.now =
    sym (all.2 ∙ ap (λ ss. taken ++ ss) c.in_default.ensures.sequences ∙ append-nil taken) in
    on_ok_both c.keep_open.result
    (λ kept same. record {
      settings = kept ∙ all.1.settings ∙ ap (λ ss. open_settings (flat_map settings_of (before ++ ss))) text;
      link = all.1.link ∙ ap (λ ss. open_link (before ++ ss)) text;
      links = all.1.links ∙ ap (λ ss. as_len (length (filter is_link (before ++ ss)))) text;
    }) c.keep_open.ensures c.keep_open.ensures
