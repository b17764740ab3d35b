-- What is open, set anew, gives the pen and the link of all sequences; what ends it, a plain pen.
use Rattle.textwrap_styles.proofs.Common.{fold-append, is_link, is_style, link_end, open_link, open_styles}
use Rattle.textwrap_styles.proofs.Common.{Pen, plain_pen, plain_rendition, Rendition, rendition_of}
use Rattle.textwrap_styles.proofs.{Common.{settings_of, style_end, with_sequence}, OpenSettings.after-more}
use Rattle.textwrap_styles.proofs.{LinkIds.{reopened-link, reopened-plain}, SequenceTexts.closing_sequences}
use Rattle.textwrap_styles.proofs.PenOpen.{open-pen, parameters-pen, pen_by, run-append}
use Rattle.textwrap_styles.{proofs.Sequences.{next_link, open_link-push}, specs.Pen.{with_code, with_field}}
use Rattle.textwrap_styles.proofs.WrittenSettings.{all-settings, open-back, styles-no_link}
use Rattle.textwrap_styles.specs.{Penned.{with_link, with_style}, Styles.reopened_link}
use Rattle.textwrap_text.proofs.Common.{◌++◌, [], All, All-head, All-tail, ap, arith, Bool, cases_Bool, cond}
use Rattle.textwrap_text.proofs.Common.{eqb-true, false, flat_map, flat_map-append, fold, List, ltb-false}
use Rattle.textwrap_text.proofs.Common.{nil_from_length, refl, rules, sym, true, ℕ, ◌∙◌, ◌∷◌, ◌≡◌}

-- the pen of sequences is that of their settings
given : (s : List ℕ) (p : Pen) → with_style p s ≡ pen_by p (settings_of s)
given s p = search (rules, arith, pen_by, parameters-pen)

pub all-given : (ss : List (List ℕ)) (now : Rendition)
    → (fold with_sequence now ss).pen ≡ pen_by now.pen (flat_map settings_of ss)
all-given [] now = refl
all-given (s ∷ ss) now = grind (arith, given, all-given ss (with_sequence now s), run-append)

links-apart : (ss : List (List ℕ)) (now : Rendition)
    → (fold with_sequence now ss).link ≡ fold with_link now.link ss
links-apart [] now = refl
links-apart (s ∷ ss) now = links-apart ss (with_sequence now s)

both : (a b : Rendition) → a.pen ≡ b.pen → a.link ≡ b.link → a ≡ b
both a b pens links =
    ap (λ p. record { pen = p; link = a.link }) pens ∙ ap (λ l. record { pen = b.pen; link = l }) links

-- sequences of the other kind change nothing
no-settings : (ss : List (List ℕ)) → All (λ s. is_style s ≡ false) ss → flat_map settings_of ss ≡ []
no-settings [] none = refl
no-settings (s ∷ ss) none =
    let rest = no-settings ss (All-tail (λ t. is_style t ≡ false) s ss none) in
    grind (arith, cases_Bool, (All-head (λ t. is_style t ≡ false) s ss none), rest)

links-stay : (ss : List (List ℕ)) (link : List ℕ) → All (λ s. is_link s ≡ false) ss
    → fold with_link link ss ≡ link
links-stay [] link none = refl
links-stay (s ∷ ss) link none =
    let rest = links-stay ss link (All-tail (λ t. is_link t ≡ false) s ss none) in
    grind (arith, cases_Bool, (All-head (λ t. is_link t ≡ false) s ss none), rest)

-- the styles give the pen that all sequences gave
open-styles-pen : (before : List (List ℕ))
    → pen_by plain_pen (flat_map settings_of (open_styles before)) ≡ (rendition_of before).pen
open-styles-pen before = search (rules, arith, all-given, open-back, open-pen, all-settings)

next-link : (s : List ℕ) (link : List (List ℕ)) (address : List ℕ) → fold with_link [] link ≡ address
    → fold with_link [] (next_link link s) ≡ with_link address s
next-link s link address same = search (rules, arith, nil_from_length, ltb-false)

links-left : (before link : List (List ℕ)) (now : Rendition) → fold with_link [] link ≡ now.link
    → fold with_link [] (fold next_link link before) ≡ (fold with_sequence now before).link
links-left [] link now same = same
links-left (s ∷ before) link now same =
    links-left before (next_link link s) (with_sequence now s) (next-link s link now.link same)

-- and the link is that of all
open-link : (before : List (List ℕ)) → fold with_link [] (open_link before) ≡ (rendition_of before).link
open-link before =
    ap (fold with_link []) (after-more open_link next_link open_link-push [] before)
    ∙ links-left before [] plain_rendition refl

pub styles-pen : (before : List (List ℕ))
    → rendition_of (reopened_link before ++ open_styles before) ≡ rendition_of before
styles-pen before =
    let starts = reopened_link before in
    both _ (rendition_of before) (all-given (starts ++ open_styles before) plain_rendition
    ∙ grind (arith, flat_map-append, no-settings starts (reopened-plain before), open-styles-pen before))
    (links-apart (starts ++ open_styles before) plain_rendition
    ∙ fold-append with_link [] starts (open_styles before)
    ∙ links-stay (open_styles before) _ (styles-no_link before) ∙ reopened-link before ∙ open-link before)

ends-plain : (now : Rendition) (plain unlinked : Bool) → (plain ≡ true → now.pen ≡ plain_pen)
    → (unlinked ≡ true → now.link ≡ [])
    → fold with_sequence now (cond plain [] (style_end ∷ []) ++ cond unlinked [] (link_end ∷ []))
    ≡ plain_rendition
unfolding with_field with_code
ends-plain now x1 x2 pen link = search (rules, arith, both)

pub ended : (before : List (List ℕ)) → rendition_of (before ++ closing_sequences before) ≡ plain_rendition
ended before =
    fold-append with_sequence plain_rendition before (closing_sequences before)
    ∙ ends-plain (rendition_of before) _ _
    (λ none. sym (open-styles-pen before) ∙ ap (λ ss. pen_by plain_pen (flat_map settings_of ss))
    (nil_from_length (open_styles before) (eqb-true _ 0 none))) (λ none. sym (open-link before)
    ∙ ap (fold with_link []) (nil_from_length (open_link before) (eqb-true _ 0 none)))
