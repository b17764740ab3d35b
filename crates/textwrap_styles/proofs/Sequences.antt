-- Escape sequences, what they do, the reader of them, and the link that is open after some.
use Rattle.std.proofs.lemmas.{List.Elements.filter_passes, Str.IsCharBoundary-from_rest}
use Rattle.std.specs.{Option.{MatchOption, option_or}, Prelude.encode_utf8, Str.{NoCharPasses, NonePass}}
use Rattle.std.specs.Str.Pattern.{FindsTextSuffix, StripsSuffix}
use Rattle.textwrap_styles.proofs.Common.{All-filter, chars, has_target, is_in_range, is_link, is_style}
use Rattle.textwrap_styles.proofs.Common.{open_link, sequence_of, sequences, style_parameters}
use Rattle.textwrap_styles.specs.Styles.{link_fields}
use Rattle.textwrap_text.proofs.Common.{◌+◌, ◌++◌, ◌-◌, ◌==◌, [], All, All-head, All-tail, and_parts, ap}
use Rattle.textwrap_text.proofs.Common.{append-nil, append_assoc, arith, Bool, Bor, cases_Bool, chars-append}
use Rattle.textwrap_text.proofs.Common.{chars_from_encodes, chars_past_char, codes, cond, cond_both, drop}
use Rattle.textwrap_text.proofs.Common.{drop-append-add, drop-drop, drop_at, encode_ascii, encode_utf8_all}
use Rattle.textwrap_text.proofs.Common.{ends_with, eqb, escape_len, false, filter, filter-append, flat_map}
use Rattle.textwrap_text.proofs.Common.{IsCharBoundary, IsUtf8, IsUtf8-drop, length, length-append, List}
use Rattle.textwrap_text.proofs.Common.{list_all, list_any, nat_eq, next_of, None, Option, refl, rules}
use Rattle.textwrap_text.proofs.Common.{slice_range, Some, subst, suc, sym, take, take-append-drop, take_all}
use Rattle.textwrap_text.proofs.Common.{take_at, taken_in, true, units, ◌||◌, ℕ, ◌∙◌, ◌∷◌, ◌≡◌, ◌≢◌}
use Rattle.textwrap_text.proofs.Lists.Parts.{ends_with-after, ends_with-other, ends_with-true, last_one-push}
use Rattle.textwrap_text.proofs.{Lists.Parts.{starts_with-rest, stripped_suffix}, Units.Reading.taken-step}
use Rattle.textwrap_text.proofs.Texts.{ascii_seam, AsciiSeam, cut_text, IsCut}
use Rattle.textwrap_text.proofs.Units.Reading.{IsRead, read-ahead, read-all, read-next, read-none, read-start}
use Rattle.textwrap_text.specs.declared.escapes.State.{State, TheVariants.{Escape, Text}}
use Rattle.textwrap_words.proofs.Word.Breaking.{units_past-skip}

-- ---- a style is no link

pub style-no_link : (s : List ℕ) → is_style s ≡ true → is_link s ≡ false
style-no_link s is = search (rules, arith, and_parts, starts_with-rest)

pub link-no_style : (s : List ℕ) → is_link s ≡ true → is_style s ≡ false
link-no_style s is = grind (arith, cases_Bool, style-no_link)

-- ---- styles

abbrev style_start : List ℕ
style_start = codes "\u{1b}["

pub not_style : (rest : List ℕ) → ((before : List ℕ) → rest ≢ before ++ codes "m")
    → is_style (codes "\u{1b}[" ++ rest) ≡ false
not_style [] lacks = refl
not_style (c ∷ cs) lacks = grind (arith, ends_with-after style_start (c ∷ cs) (codes "m") (omega arith) lacks)

pub style_parameters-is : (parameters : List ℕ)
    → style_parameters (codes "\u{1b}[" ++ (parameters ++ codes "m")) ≡ parameters
style_parameters-is parameters = grind (arith, length-append, take_at)

pub style-is : (parameters : List ℕ) → is_style (codes "\u{1b}[" ++ (parameters ++ codes "m"))
    ≡ list_all (is_in_range 0x30 0x3B) parameters
style-is parameters =
    let whole = style_start ++ (parameters ++ codes "m") in
    grind (arith, style_parameters-is, ends_with-true (codes "m") whole (style_start ++ parameters) refl)

-- ---- links

abbrev pub link_start : List ℕ
link_start = codes "\u{1b}]8;"

-- BEL, and the other end of a command
abbrev pub bell : List ℕ
bell = codes "\u{7}"

abbrev pub terminator : List ℕ
terminator = codes "\u{1b}\\"

pub not_link : (rest : List ℕ) → ((before : List ℕ) → rest ≢ before ++ bell)
    → ((before : List ℕ) → rest ≢ before ++ terminator) → is_link (link_start ++ rest) ≡ false
not_link [] no_bell none = refl
not_link (c ∷ []) no_bell none = grind (arith, ends_with-after link_start (c ∷ []) bell (omega arith) no_bell)
not_link (c ∷ d ∷ rest) no_bell none =
    let after = ends_with-after link_start (c ∷ d ∷ rest) in
    grind (arith, after bell (omega arith) no_bell, after terminator (omega arith) none)

-- these are the fields of a link's command, and a semicolon makes it a link
pub record IsAround (sequence fields : List ℕ) : Type 0 where
  pub are : link_fields sequence ≡ fields
  pub is : is_link sequence ≡ list_any (λ c. c == 0x3B) fields

-- so it is before either end, where `rings` says that this is BEL
around : (fields ending : List ℕ) (rings : Bool)
    → ends_with nat_eq (link_start ++ (fields ++ ending)) bell ≡ rings
    → (rings || ends_with nat_eq (link_start ++ (fields ++ ending)) terminator) ≡ true
    → length ending ≡ cond rings 1 2 → IsAround (link_start ++ (fields ++ ending)) fields
around fields ending rings rung ended size = search (rules, arith, length-append, take_at)

pub around-bell : (fields : List ℕ) → IsAround (link_start ++ (fields ++ bell)) fields
around-bell fields =
    around fields bell true
    (ends_with-true bell (link_start ++ (fields ++ bell)) (link_start ++ fields) refl) refl refl

pub around-terminator : (fields : List ℕ) → IsAround (link_start ++ (fields ++ terminator)) fields
around-terminator fields =
    let whole = link_start ++ (fields ++ terminator) in
    let silent : ends_with nat_eq whole bell ≡ false =
    ends_with-other whole (link_start ++ (fields ++ codes "\u{1b}")) 92 7 (λ e. cc)
    (ap (λ l. link_start ++ l) (sym (append_assoc fields (codes "\u{1b}") (codes "\\")))) in
    around fields terminator false silent (ends_with-true terminator whole (link_start ++ fields) refl) refl

-- the fields stand before whichever end is found
pub link-cases : (sequence rest : List ℕ) (first second : Option (Bor (List ℕ)))
    → sequence ≡ codes "\u{1b}]8;" ++ rest
    → MatchOption first ((before : List ℕ) → rest ≢ before ++ codes "\u{7}")
    (λ fields. StripsSuffix (FindsTextSuffix (codes "\u{7}")) rest fields.now)
    → MatchOption second ((before : List ℕ) → rest ≢ before ++ codes "\u{1b}\\")
    (λ fields. StripsSuffix (FindsTextSuffix (codes "\u{1b}\\")) rest fields.now)
    → MatchOption (option_or first second) (is_link sequence ≡ false) (λ fields. IsAround sequence fields.now)
link-cases sequence rest (Some fields) second whole strips _ =
    let is = whole ∙ ap (λ l. link_start ++ l) (stripped_suffix bell rest fields.now strips) in
    subst (λ l. IsAround l fields.now) (sym is) (around-bell fields.now)
link-cases sequence rest None (Some fields) whole none strips =
    let is = whole ∙ ap (λ l. link_start ++ l) (stripped_suffix terminator rest fields.now strips) in
    subst (λ l. IsAround l fields.now) (sym is) (around-terminator fields.now)
link-cases sequence rest None None whole no_bell none = ap is_link whole ∙ not_link rest no_bell none

-- ---- the reader of an escape sequence, after its ESC: where it stands, and what it has still
-- to take

-- the bytes that a sequence takes of the characters to come
abbrev pub tail_in : State → List ℕ → ℕ
tail_in state cs = length (encode_utf8_all (take (taken_in state cs) cs))

-- of what follows its ESC
abbrev pub tail_len : List ℕ → ℕ
tail_len text = tail_in Escape (chars text)

pub record IsReadTo (text : List ℕ) (place : ℕ) (rest : List ℕ) (state : State) : Type 0 where
  pub read : IsRead text place rest
  pub tail : tail_len text ≡ place + tail_in state (chars rest)

module _ (text : List ℕ) where
  pub read_to-start : IsUtf8 text → IsReadTo text 0 text Escape
  read_to-start utf8 = record { read = read-start text utf8; tail = omega arith }

  tail-step : (state : State) (c : ℕ) (cs : List ℕ) → state ≢ Text
      → tail_in state (c ∷ cs) ≡ length (encode_utf8 c) + tail_in (next_of state c) cs
  tail-step state c cs inside =
      rw (taken-step state c cs inside) (length-append (encode_utf8 c) (encode_utf8_all (take _ cs)))

  module _ (place : ℕ) (rest : List ℕ) (state : State) (h : IsReadTo text place rest state) where
    pub read_to-step : (end c : ℕ) (after : List ℕ) → state ≢ Text → rest ≡ encode_utf8 c ++ after
        → end ≡ place + length (encode_utf8 c) → IsReadTo text end after (next_of state c)
    read_to-step end c after inside is past =
        let step = tail-step state c (chars after) inside in
        let tail : tail_len text ≡ end + tail_in (next_of state c) (chars after) =
        omega (arith, h.tail, past, ap (tail_in state) (read-ahead h.read c after is), step) in
        record { read = read-next h.read c after is end past; tail = tail }

    pub read_to-end : length rest ≡ 0 → length text ≡ tail_len text
    read_to-end none =
        let empty = ap (λ cs. length (encode_utf8_all cs)) (take_all (taken_in state []) [] (omega arith)) in
        omega (arith, h.tail, read-all h.read none, ap (tail_in state) (read-none h.read none), empty)

abbrev sequences_in : List ℕ → List (List ℕ)
sequences_in cs = flat_map sequence_of (units cs)

-- no sequence begins before an ESC
sequences_in-plain : (front rest : List ℕ) → NonePass (λ c. eqb c 27) front
    → sequences_in (front ++ rest) ≡ sequences_in rest
sequences_in-plain [] rest plain = refl
sequences_in-plain (c ∷ front) rest plain = rw plain.0 (sequences_in-plain front rest plain.1)

-- at an ESC one begins, and the next ones are those of what it leaves
sequences_in-escape : (cs : List ℕ) → sequences_in (27 ∷ cs)
    ≡ encode_utf8_all (27 ∷ take (escape_len cs) cs) ∷ sequences_in (drop (escape_len cs) cs)
sequences_in-escape cs =
    ap (λ us. encode_utf8_all (27 ∷ take (escape_len cs) cs) ∷ flat_map sequence_of us)
    (units_past-skip (escape_len cs) cs)

pub no_sequences : (text : List ℕ) → IsUtf8 text → NoCharPasses (λ c. eqb c 27) text → sequences text ≡ []
no_sequences text utf8 plain =
    let are : plain.0 ≡ chars text = chars_from_encodes plain.0 text utf8 plain.1 in
    ap sequences_in (sym are ∙ sym (append-nil plain.0)) ∙ sequences_in-plain plain.0 [] plain.2

-- where the sequence of an ESC ends, by what stands before that and after it
module _ (text before after : List ℕ) (utf8 : IsUtf8 text) (whole : text ≡ before ++ 27 ∷ after) where
  abbrev pub end_of : ℕ
  end_of = length before + 1 + tail_len after

  seam : AsciiSeam before after 27
  seam = ascii_seam before after 27 (subst IsUtf8 whole utf8) (omega arith)

  abbrev taken : List ℕ
  taken = take (escape_len (chars after)) (chars after)

  abbrev rest : List ℕ
  rest = drop (escape_len (chars after)) (chars after)

  cut : IsCut after taken rest
  cut = cut_text after taken rest seam.back (sym (take-append-drop (escape_len (chars after)) (chars after)))

  past : drop (length before + 1) text ≡ after
  past = ap (drop (length before + 1)) whole ∙ drop-append-add before (27 ∷ after) 1

  pub end-boundary : IsCharBoundary text end_of
  end-boundary = IsCharBoundary-from_rest text (length before + 1) (tail_len after)
      (omega (arith, ap length whole, length-append before (27 ∷ after)))
      (subst (λ l. IsCharBoundary l (tail_len after)) (sym past) cut.boundary)

  left : drop end_of text ≡ encode_utf8_all rest
  left = grind (arith, drop-drop, past, cut.back)

  sequence : slice_range text (length before) end_of ≡ encode_utf8_all (27 ∷ taken)
  sequence = grind (arith, whole, drop_at, cut.front, encode_ascii)

  characters : chars text ≡ chars before ++ 27 ∷ chars after
  characters = ap chars whole ∙ chars-append before (27 ∷ after) seam.front
      ∙ ap (λ cs. chars before ++ cs) (chars_past_char (27 ∷ after) after 27 seam.from
      (ap (λ l. l ++ after) (sym (encode_ascii 27 (omega arith)))))

  -- the first sequence of the text, and those of what follows it
  pub sequences-next : NoCharPasses (λ c. eqb c 27) before → sequences text
      ≡ slice_range text (length before) end_of ∷ sequences (drop end_of text)
  sequences-next plain =
      let are = chars_from_encodes plain.0 before seam.front plain.1 in
      let later = chars_from_encodes rest (drop end_of text)
      (IsUtf8-drop text end_of utf8 end-boundary) (sym left) in
      let none = sequences_in-plain plain.0 (27 ∷ chars after) plain.2 in
      grind (arith, characters, sequences_in-escape, sequence, are, later, none)

-- the link after one more sequence
abbrev pub next_link : List (List ℕ) → List ℕ → List (List ℕ)
next_link link s = cond (is_link s) (filter has_target (s ∷ [])) link

pub open_link-push : (before : List (List ℕ)) (s : List ℕ)
    → open_link (before ++ s ∷ []) ≡ next_link (open_link before) s
open_link-push before s = grind (arith, cases_Bool, filter-append, last_one-push, append-nil)

-- it is one of the links, or there is none: what holds of all sequences holds of it
pub open_link-cases : (Q : List ℕ → Type 0) (P : List (List ℕ) → Type 0) (before : List (List ℕ))
    → All Q before → P [] → ((s : List ℕ) → is_link s ≡ true → Q s → P (s ∷ [])) → P (open_link before)
open_link-cases Q P before all none one =
    by (filter is_link before) (filter_passes is_link before) (All-filter is_link Q before all)
  where
    by : (ls : List (List ℕ)) → All (λ s. is_link s ≡ true) ls → All Q ls
        → P (filter has_target (drop (length ls - 1) ls))
    by [] are all = none
    by (s ∷ []) are all =
        cond_both (has_target s) (s ∷ []) [] P
        (λ _. one s (All-head (λ s. is_link s ≡ true) s [] are) (All-head Q s [] all)) (λ _. none)
    by (s ∷ t ∷ ls) are all =
        let next : length (s ∷ t ∷ ls) - 1 ≡ suc (length (t ∷ ls) - 1) = omega arith in
        rw next (by (t ∷ ls) (All-tail (λ s. is_link s ≡ true) s (t ∷ ls) are) (All-tail Q s (t ∷ ls) all))
