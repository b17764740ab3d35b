-- What is open behind a line that does not stand apart, and which lines do not.
use Rattle.std.{proofs.Common.nat_le, specs.Str.chars}
use Rattle.textwrap_marked_lines.specs.Fences.{opens_attribute, opens_formula, has_pre_end, opened_by, opened}
use Rattle.textwrap_marked_lines.specs.Fences.{run_of}
use Rattle.textwrap_marked_lines.specs.Lines.{begins_code, is_in_block, is_prompted, new_before, is_before}
use Rattle.textwrap_marked_lines.specs.declared.fences.FenceKind.TheVariants.{Attribute, Formula, Code, Pre}
use Rattle.textwrap_marked_lines.specs.declared.fences.FenceKind.{FenceKind}
use Rattle.textwrap_marked_lines.{specs.Columns.{DepthText, is_deeper, depth_of}, specs.Lines.new_by}
use Rattle.textwrap_marks.proofs.ListLemmas.{or-right}
use Rattle.textwrap_marks.specs.Signs.{any_contains, is_rule_characters, opens_session, is_directive, opens_code}
use Rattle.textwrap_marks.specs.Signs.{is_rule}
use Rattle.textwrap_marks.{proofs.Letterless.no-session, specs.Signs.is_sign, specs.Words.is_letter_or_digit}
use Rattle.textwrap_text.proofs.Common.{slice_index, and_parts, list_all, not-true, rules}
use Rattle.textwrap_marked_laws.proofs as own
use own.Common.{Option, is_key, length, nat_eq, nat_lt, ne_eqb, passed, codes, false, Bool, List, None, Some}
use own.Common.{StateText, and-false, deeper_by, has_words, nat_tests, new_fence, LineText, any-none, is_deep}
use own.Common.{bytes_eq, contains, eqb-true, has_byte, list_any, marks_of, none-any, is_some, or-left, arith}
use own.Common.{cases_Bool, first_word, has_letter, option_map, prefix_len, told-apart, true≢false, FenceText}
use own.Common.{closes_block, closes_early, begins_text, has_columns, starts_with, All-weaker, SpacedText, []}
use own.Common.{cond, refl, true, ◌&&◌, ◌==◌, ◌||◌, All, not, sym, ◌-◌, ◌<◌, ◌∙◌, ◌∷◌, ◌≡◌, ap, ℕ}
use own.Common.{false_from_ne_true, bytes_eq-Decides, opens_paragraph, is_column_word, ReflowOptions, goes_on}
use own.LineKinds.{has_opening_in, hanging_of, line_by, Kinds}

-- ---- the first word of a text

pub text-letter : (starred : Bool) (word : List ℕ) → begins_text starred word ≡ true → has_letter word ≡ true
text-letter starred word is =
    (and_parts (has_letter word) (not (is_sign word))
    (and_parts (has_letter word && not (is_sign word)) _ is).0).0

pub text-no-sign : (starred : Bool) (word : List ℕ) → begins_text starred word ≡ true → is_sign word ≡ false
text-no-sign starred word is =
    not-true (is_sign word)
    (and_parts (has_letter word) (not (is_sign word))
    (and_parts (has_letter word && not (is_sign word)) _ is).0).1

-- it is none of the texts that have no letter
pub text-other : (starred : Bool) (word other : List ℕ) → begins_text starred word ≡ true
    → has_letter other ≡ false → bytes_eq word other ≡ false
text-other starred word other is none =
    told-apart has_letter word other (text-letter starred word is) none

-- ---- it opens no fence

three : (mark : ℕ) (word : List ℕ) → nat_lt 2 (prefix_len (λ c. c == mark) word) ≡ true
    → starts_with nat_eq word (mark ∷ mark ∷ mark ∷ []) ≡ true
three mark [] long = absurd (true≢false (sym long))
three mark (a ∷ []) long = grind (arith, nat_tests, cases_Bool)
three mark (a ∷ b ∷ []) long = grind (arith, nat_tests, cases_Bool)
three mark (a ∷ b ∷ c ∷ word) long = grind (arith, nat_tests, cases_Bool)

-- nor a formula
no-formula : (words : List SpacedText) → is_sign (first_word words) ≡ false → opens_formula words ≡ false
no-formula [] none = refl
no-formula (w ∷ ws) none = search (rules, arith, or-right, or-left)

-- nor an attribute
hash : (word : List ℕ) → is_sign word ≡ false
    → (starts_with nat_eq word (codes "#[") || starts_with nat_eq word (codes "#![")) ≡ false
hash [] none = refl
hash (c ∷ word) none = grind (arith, nat_tests, cases_Bool)

no-attribute : (words : List SpacedText) → is_sign (first_word words) ≡ false → opens_attribute words ≡ false
no-attribute words none = ap (λ b. b && any_contains (codes "```") words) (hash (first_word words) none)

run-none : (word : List ℕ) → is_sign word ≡ false → run_of word ≡ None
run-none word none =
    let mark = slice_index word 0 in
    let len = prefix_len (λ c. c == mark) word in
    ap (λ b. cond b (Some (record { mark = mark; len = len })) None)
    (false_from_ne_true ((mark == 96 || mark == 126) && nat_lt 2 len) (λ is.
    let (mark_is, long) = and_parts (mark == 96 || mark == 126) (nat_lt 2 len) is in
    marked mark (three mark word long) mark_is))
  where
    marked : (mark : ℕ) → starts_with nat_eq word (mark ∷ mark ∷ mark ∷ []) ≡ true
        → (mark == 96 || mark == 126) ≡ true → ⊥
    marked mark starts is = cut (mark == 96) refl is
      where
        cut : (b : Bool) → (mark == 96) ≡ b → (b || mark == 126) ≡ true → ⊥
        cut true same either =
            true≢false (sym starts ∙ ap (λ m. starts_with nat_eq word (m ∷ m ∷ m ∷ []))
            (eqb-true mark 96 same) ∙ or-right _ _ (or-left _ _ (or-left _ (is_directive word) none)))
        cut false same either =
            true≢false (sym starts ∙ ap (λ m. starts_with nat_eq word (m ∷ m ∷ m ∷ []))
            (eqb-true mark 126 either) ∙ or-right _ _ (or-left _ (is_directive word) none))

pub no-columns : (justify : Bool) (words : List SpacedText) → has_columns justify words ≡ false
    → All (λ w. is_column_word w.word ≡ false) words
no-columns justify words none = grind (arith, cases_Bool, any-none, or-left)

pub no-return : (word : List ℕ) → is_column_word word ≡ false → has_byte 13 word ≡ false
no-return word none = or-right _ _ (or-left _ _ (or-left _ (contains (codes "<pre") word) none))

pub opened-none : (starred : Bool) (words : List SpacedText) → begins_text starred (first_word words) ≡ true
    → All (λ w. is_column_word w.word ≡ false) words → opened words ≡ None
opened-none starred words begins none =
    let no_sign = text-no-sign starred (first_word words) begins in
    let pre = none-any (λ w. contains (codes "<pre") w.word) words
    (All-weaker (λ w. is_column_word w.word ≡ false) (λ w. contains (codes "<pre") w.word ≡ false)
    (λ w no. or-right _ (contains (codes "<pre") w.word) no) words none) in
    let code = or-right _ (opens_code (first_word words))
    (or-right _ (is_directive (first_word words)) no_sign) in
    let formula = no-formula words no_sign in
    let attribute = no-attribute words no_sign in
    ap (λ r. opened_by r words) (run-none (first_word words) no_sign)
    ∙ (λ i. cond (pre i && not (has_pre_end words)) (Some Pre)
    (cond (code i) (Some Code) (cond (formula i) (Some Formula) (cond (attribute i) (Some Attribute) None))))

-- ---- the state behind it

abbrev pub behind_text : Bool → List ℕ → List SpacedText → StateText
behind_text in_block hanging words = record {
  in_block = in_block && not (closes_block words);
  fence = None;
  prompted = false;
  before = Some (depth_of hanging);
  by = deeper_by hanging words;
}

-- ---- lines that do not stand apart, by themselves, and what is open behind them

abbrev pub block_at : StateText → Kinds → Bool
block_at state k = state.in_block || has_opening_in k.comments

abbrev pub starred_at : ReflowOptions → StateText → Kinds → Bool
starred_at options state k = block_at state k && not (has_byte 42 (hanging_of options.bare k))

abbrev pub field_of : Kinds → Bool
field_of k = is_key (first_word k.words) && k.bare

-- words that do not stand apart by themselves
pub record AreFree (justify in_block starred keyed : Bool) (words : List SpacedText) : Type 0 where
  pub begins : begins_text starred (first_word words) ≡ true
  pub columns : has_columns justify words ≡ false
  pub field : (keyed && has_byte 45 (first_word words)) ≡ false
  pub closes : (in_block && closes_block words && closes_early words) ≡ false

-- where nothing is open that makes a line stand apart
pub record IsOpen (options : ReflowOptions) (state : StateText) (margin : List ℕ) : Type 0 where
  pub fence : is_some state.fence ≡ false
  pub level : is_deep options state margin ≡ false
  pub prompt : state.prompted ≡ false

seven : (a b c d e f g : Bool) → (a || b || c || (d || e || f || g)) ≡ false
    → (a ≡ false) × (b ≡ false) × (c ≡ false) × (d ≡ false) × (e ≡ false) × (f ≡ false) × (g ≡ false)
seven a b c d e f g is = grind (arith, cases_Bool)

yes-not : (b : Bool) → not b ≡ false → b ≡ true
yes-not true is = refl
yes-not false is = sym is

pub some-none : (f : Option FenceText) → is_some f ≡ false → f ≡ None
some-none None is = refl
some-none (Some f) is = absurd (true≢false is)

pub begun : (starred : Bool) (words : List SpacedText)
    → begins_text starred (first_word words) ≡ true → has_words words ≡ true
unfolding chars
begun starred [] is = absurd (true≢false (sym is))
begun starred (w ∷ ws) is = ap not (ne_eqb (length (w ∷ ws)) 0 (λ e. omega (arith, e)))

module _ (options : ReflowOptions) (state : StateText) (raw : List ℕ) (fed : Bool) (k : Kinds) where
  pub apart-free : (line_by options state raw fed k).apart ≡ false
      → IsOpen options state (hanging_of options.bare k)
      × AreFree options.justify (block_at state k) (starred_at options state k) (field_of k) k.words
  apart-free is =
      let begins = begins_text (starred_at options state k) (first_word k.words) in
      let parts = seven (is_some state.fence)
      (is_deep options state (hanging_of options.bare k)) state.prompted
      (not begins) (has_columns options.justify k.words) (field_of k && has_byte 45 (first_word k.words))
      (block_at state k && closes_block k.words && closes_early k.words) is in (
        record { fence = parts.0; level = parts.1; prompt = parts.2 },
        record {
          begins = yes-not begins parts.3;
          columns = parts.4;
          field = parts.5;
          closes = parts.6;
        },
      )

  pub free-apart : IsOpen options state (hanging_of options.bare k)
      → AreFree options.justify (block_at state k) (starred_at options state k) (field_of k) k.words
      → (line_by options state raw fed k).apart ≡ false
  free-apart at are = grind (arith, cases_Bool)

  pub behind-free : IsOpen options state (hanging_of options.bare k)
      → AreFree options.justify (block_at state k) (starred_at options state k) (field_of k) k.words
      → passed state (line_by options state raw fed k)
      ≡ behind_text (block_at state k) (line_by options state raw fed k).hanging k.words
  behind-free at are =
      let line = line_by options state raw fed k in
      let starred = starred_at options state k in
      let none = some-none state.fence at.fence in
      let unfenced : is_some state.fence ≡ false = ap is_some none in
      let opens = opened-none starred k.words are.begins (no-columns options.justify k.words are.columns) in
      let fence_of : Option FenceKind → Option FenceText =
      option_map (λ kind. record { marks = marks_of line.hanging; kind = kind }) in
      let before : is_before (is_some state.fence) line ≡ true = ap (λ b. is_before b line) unfenced
      ∙ ap (λ d. not d && has_words k.words) at.level ∙ begun starred k.words are.begins in
      let prompts : is_prompted state.prompted (is_some state.fence) k.words ≡ false =
      ap (λ b. is_prompted state.prompted b k.words) unfenced
      ∙ ap (λ b. has_words k.words && (b || opens_session k.words)) at.prompt
      ∙ ap (λ b. has_words k.words && b) (no-session k.words
      (text-letter starred (first_word k.words) are.begins))
      ∙ and-false (has_words k.words) in
      λ i. record {
        in_block = (ap (λ b. is_in_block state.in_block b line) unfenced
            ∙ block state.in_block (has_opening_in k.comments) (closes_block k.words)) i;
        fence = (ap (λ f. new_fence f line) none
            ∙ ap (λ d. cond d None (fence_of (opened k.words))) at.level ∙ ap fence_of opens) i;
        prompted = prompts i;
        before = ap (λ b. new_before state.before b line) before i;
        by = ap (λ b. new_by state.by b line) before i;
      }
    where
      block : (i o c : Bool) → cond i (not c) (true && (o && not c)) ≡ ((i || o) && not c)
      block true o c = refl
      block false o c = refl

-- ---- no rule begins with a letter

same-any : (test : ℕ → Bool) (c : ℕ) (cs : List ℕ) → list_all (λ x. x == c) cs ≡ true
    → list_any test cs ≡ true → test c ≡ true
same-any test c [] all some = absurd (true≢false (sym some))
same-any test c (x ∷ cs) all some = grind (arith, cases_Bool, eqb-true, same-any test c cs)

rule-none : (cs : List ℕ) → list_any is_letter_or_digit cs ≡ true → is_rule_characters cs ≡ false
rule-none [] some = absurd (true≢false (sym some))
rule-none (c ∷ cs) some = grind (arith, cases_Bool, same-any)

pub letter-no-rule : (words : List SpacedText) → has_letter (first_word words) ≡ true → is_rule words ≡ false
letter-no-rule [] some = refl
letter-no-rule (w ∷ []) some = rule-none (chars w.word) some
letter-no-rule (w ∷ v ∷ ws) some = refl

-- ---- what is behind a line is not deeper

no-less : (by x : ℕ) → 0 < by → nat_le by (x - x) ≡ false
no-less by x some = grind (arith, nat_tests, cases_Bool)

never-deeper : (by : ℕ) (d : DepthText) → 0 < by → is_deeper by d d ≡ false
never-deeper by d some = grind (arith, cases_Bool, no-less, and-false)

depth-some : (hanging : List ℕ) (words : List SpacedText) → 0 < deeper_by hanging words
depth-some hanging words = grind (arith, cases_Bool)

pub open-behind : (options : ReflowOptions) (in_block : Bool) (hanging : List ℕ) (words : List SpacedText)
    → IsOpen options (behind_text in_block hanging words) hanging
open-behind options in_block hanging words = record {
  fence = refl;
  level = deep options.indented;
  prompt = refl;
}
  where
    none : (a b : Bool) → (a && b && not true) ≡ false
    none true true = refl
    none true false = refl
    none false b = refl

    deep : (b : Bool)
        → cond b false (is_deeper (deeper_by hanging words) (depth_of hanging) (depth_of hanging)
        || (options.markdown && begins_code (depth_of hanging)
        && not (bytes_eq (marks_of hanging) (marks_of hanging)))) ≡ false
    deep true = refl
    deep false =
        rw (
          never-deeper (deeper_by hanging words) (depth_of hanging) (depth-some hanging words),
          (bytes_eq-Decides (marks_of hanging) (marks_of hanging)).1 refl,
        )
        (none options.markdown (begins_code (depth_of hanging)))

pub behind-same : (in_block : Bool) (hanging : List ℕ) (words others : List SpacedText)
    → (in_block && closes_block words) ≡ (in_block && closes_block others)
    → deeper_by hanging words ≡ deeper_by hanging others
    → behind_text in_block hanging words ≡ behind_text in_block hanging others
behind-same in_block hanging words others closes deeper = grind (arith, cases_Bool)

pub goes-true : (line next : LineText) → line.apart ≡ false → next.apart ≡ false → line.ended ≡ false
    → next.prefix ≡ line.hanging → opens_paragraph (first_word next.words) ≡ false → goes_on line next ≡ true
goes-true line next a b c d e = grind (arith, cases_Bool, bytes_eq-Decides)
