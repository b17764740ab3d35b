-- The lines of a paragraph: the first one, those behind its hanging form, and others in their place.
use Rattle.std.proofs.lemmas.List.Folds.{list_any-append}
use Rattle.textwrap_marks.{proofs.Letterless.box-plain, specs.Signs.is_rule}
use Rattle.textwrap_marked_laws.proofs as own
use own.Common.{first_word, has_letter, StateText, all-right, LineText, has_byte, none-any, or-false, is_key}
use own.Common.{hanging_bullets, opens_paragraph, without_returns, ReflowOptions, append_assoc, line_as_read}
use own.Common.{length, codes, false, subst, Bool, List, None, refl, true, ◌&&◌, ◌++◌, ◌==◌, ◌||◌, All, not}
use own.Common.{spaced_words, begins_text, spaced_text, All-weaker, SpacedText, append-nil, cases_Bool, arith}
use own.HangingForms.{bullets-white, before-full, full-before, marks-kinds, hanging-is, hangs-same, HasNoMark}
use own.LaterLines.{kinds-first, read-spaced, read_block, read_kinds, read_marks, text-parts, words-some}
use own.LaterLines.{line-read, read-line, text-line, IsOfText, read_as, regroup, IsRead}
use own.LineKinds.{has_opening_in, hanging_of, HaveKinds, line-is, line_by, Kinds, kinds}
use own.OpenBehind.{field_of, AreFree, IsOpen, begun}
use own.OpenBehind.{letter-no-rule, text-letter, apart-free, free-apart, starred_at, text-other, some-none}
use own.SpacedBack.{white-other, AreSpaced, line-back, with_lead, lead-one, IsWhite}
use own.{Common.{sym, ◌<◌, ◌∙◌, ◌≡◌, [], ap, ℕ}, HangingForms.{kinds-same, opens-none, IsHanging, IsFull}}

pub all-spaced : (ks : List SpacedText) → All IsFull ks → AreSpaced ks
all-spaced ks full = subst AreSpaced (append-nil ks) (full-before ks [] full tt)

-- what is read of a line that is made of these
made-line : (options : ReflowOptions) (state : StateText) (raw : List ℕ) (fed : Bool) (lead : List ℕ)
    (cs qs bs ws : List SpacedText) → All IsWhite lead → All IsFull (cs ++ (qs ++ bs)) → AreSpaced ws
    → HaveKinds options state.in_block cs qs bs ws
    → without_returns raw ≡ (lead ++ spaced_text (cs ++ (qs ++ bs))) ++ spaced_text ws
    → line_as_read options state raw fed ≡ line_by options state raw fed (kinds lead cs qs bs ws)
made-line options state raw fed lead cs qs bs ws white full spaced have text =
    let marks = cs ++ (qs ++ bs) in
    let group = regroup cs qs bs ws in
    line-is lead cs qs bs ws options state raw fed (record {
      white = white;
      spaced = subst AreSpaced (sym group) (full-before marks ws full spaced);
      is = text ∙ append_assoc lead (spaced_text marks) (spaced_text ws)
          ∙ ap (λ l. lead ++ l) (sym (text-parts marks ws) ∙ ap spaced_text (sym group));
    }) have

-- ---- lines behind a hanging form

-- what is known of a line in the place of others of its paragraph
pub record IsNew (options : ReflowOptions) (in_block : Bool) (hanging : List ℕ) (state : StateText)
    (line : LineText) (prefix : List ℕ) (words : List SpacedText) : Type 0 where
  pub of : IsOfText options in_block hanging state line
  pub apart : line.apart ≡ false
  pub prefixed : line.prefix ≡ prefix
  pub has : line.words ≡ words

module _ (options : ReflowOptions) (in_block : Bool) (hanging : List ℕ)
    (hang : IsHanging options in_block hanging) where
  -- what is read of a line behind it, with these words
  abbrev hung : List SpacedText → Kinds
  hung ws = kinds hang.lead hang.cs hang.qs [] ws

  hung-block : (state : StateText) → state.in_block ≡ in_block
      → (state.in_block || has_opening_in hang.cs) ≡ in_block
  hung-block state block = grind (arith, cases_Bool, opens-none, or-false)

  hung-margin : (ws : List SpacedText) → hanging_of options.bare (hung ws) ≡ hanging
  hung-margin ws =
      hangs-same options in_block hang.cs hang.qs hang.marks options.bare hang.lead ws ∙ sym hang.is

  hung-line : (state : StateText) (raw : List ℕ) (fed : Bool) (ws : List SpacedText)
      → state.in_block ≡ in_block → (line_by options state raw fed (hung ws)).apart ≡ false → AreSpaced ws
      → IsOfText options in_block hanging state (line_by options state raw fed (hung ws))
  hung-line state raw fed ws block apart spaced =
      text-line options in_block hanging state raw fed (hung ws) apart (hung-block state block)
      (append-nil (hanging_of options.bare (hung ws)) ∙ hung-margin ws) spaced

  -- a line of the text that begins with it
  pub later-line : (state : StateText) (raw : List ℕ) (fed : Bool) → state.in_block ≡ in_block
      → (line_as_read options state raw fed).apart ≡ false
      → (line_as_read options state raw fed).prefix ≡ hanging
      → IsOfText options in_block hanging state (line_as_read options state raw fed)
  later-line state raw fed block apart prefix =
      let r = line-read options state raw in
      let k = read_kinds options state raw r in
      let marks = read_marks options state raw r in
      let is = read-line options state raw r fed in
      let free = apart-free options state raw fed k (sym (ap (λ (l : LineText). l.apart) is) ∙ apart) in
      let some : 0 < length r.ws =
      words-some r.ws (begun (starred_at options state k) r.ws free.1.begins) in
      let (full, spaced) = before-full marks r.ws some (read-spaced options state raw r) in
      let all = all-spaced marks full in
      let hung_all = all-spaced (hang.cs ++ hang.qs) hang.full in
      let same : with_lead r.lead marks ≡ with_lead hang.lead (hang.cs ++ hang.qs) =
      sym (line-back r.lead marks r.text.white all)
      ∙ ap spaced_words (sym (ap (λ (l : LineText). l.prefix) is) ∙ prefix ∙ hang.is)
      ∙ line-back hang.lead (hang.cs ++ hang.qs) hang.white hung_all in
      let (fronts, words) = lead-one r.lead hang.lead marks (hang.cs ++ hang.qs) all hung_all same in
      let have = subst (λ b. HaveKinds options b r.cs r.qs r.bs r.ws) block r.have in
      let (c, q, b) = kinds-same options in_block hang.cs hang.qs hang.marks r.cs r.qs r.bs r.ws have words in
      let whole : line_as_read options state raw fed ≡ line_by options state raw fed (hung r.ws) =
      is ∙ (λ i. line_by options state raw fed (kinds (fronts i) (c i) (q i) (b i) r.ws)) in
      subst (IsOfText options in_block hanging state) (sym whole)
      (hung-line state raw fed r.ws block (sym (ap (λ (l : LineText). l.apart) whole) ∙ apart) spaced)

  -- a new line behind it
  pub later-new : (state : StateText) (raw : List ℕ) (fed : Bool) (ws : List SpacedText)
      → state.in_block ≡ in_block → without_returns raw ≡ hanging ++ spaced_text ws → AreSpaced ws
      → HasNoMark options in_block ws → IsOpen options state hanging
      → AreFree options.justify in_block (in_block && not (has_byte 42 hanging)) (is_key (first_word ws) && true) ws
      → IsNew options in_block hanging state (line_as_read options state raw fed) hanging ws
  later-new state raw fed ws block text spaced lacks at are =
      let whole = append-nil hang.qs in
      let is = made-line options state raw fed hang.lead hang.cs hang.qs [] ws hang.white
      (subst (λ l. All IsFull (hang.cs ++ l)) (sym whole) hang.full) spaced
      (subst (λ b. HaveKinds options b hang.cs hang.qs [] ws) (sym block)
      (marks-kinds options in_block hang.cs hang.qs hang.marks ws lacks))
      (text ∙ ap (λ h. h ++ spaced_text ws)
      (hang.is ∙ ap (λ l. hang.lead ++ spaced_text (hang.cs ++ l)) (sym whole))) in
      let margin = hung-margin ws in
      let apart : (line_by options state raw fed (hung ws)).apart ≡ false =
      free-apart options state raw fed (hung ws)
      (subst (IsOpen options state) (sym margin) at)
      (subst (λ b. AreFree options.justify b (b && not (has_byte 42 (hanging_of options.bare (hung ws))))
      (is_key (first_word ws) && true) ws) (sym (hung-block state block))
      (subst (λ h. AreFree options.justify in_block (in_block && not (has_byte 42 h)) (is_key (first_word ws) && true) ws)
      (sym margin) are)) in
      subst (λ l. IsNew options in_block hanging state l hanging ws) (sym is) (record {
        of = hung-line state raw fed ws block apart spaced;
        apart = apart;
        prefixed = ap (λ l. hang.lead ++ spaced_text (hang.cs ++ l)) (append-nil hang.qs) ∙ sym hang.is;
        has = refl;
      })

-- ---- the first line

-- all that the lines before it ask of a line, and of the first of a block
pub record IsHeadAlike (line other : LineText) : Type 0 where
  pub prefix : other.prefix ≡ line.prefix
  pub hangs : other.hanging ≡ line.hanging
  pub field : other.field ≡ line.field
  pub chosen : other.chosen ≡ line.chosen
  pub apart : other.apart ≡ line.apart
  pub rule : is_rule other.words ≡ is_rule line.words
  pub opens : opens_paragraph (first_word other.words) ≡ opens_paragraph (first_word line.words)

-- all that is asked of the first line of a block
pub record IsFirstAlike (line new : LineText) : Type 0 where
  pub head : IsHeadAlike line new
  pub starred : new.starred ≡ line.starred

module _ (options : ReflowOptions) (state : StateText) (raw : List ℕ) (fed : Bool)
    (r : IsRead options state raw) (apart : (read_as options state raw r fed).apart ≡ false) where
  abbrev first_kinds : Kinds
  first_kinds = read_kinds options state raw r

  abbrev first_line : LineText
  first_line = read_as options state raw r fed

  abbrev first_block : Bool
  first_block = read_block options state raw r

  first-free : IsOpen options state (hanging_of options.bare first_kinds)
      × AreFree options.justify first_block (starred_at options state first_kinds) (field_of first_kinds) r.ws
  first-free = apart-free options state raw fed first_kinds apart

  first-some : 0 < length r.ws
  first-some = words-some r.ws (begun (starred_at options state first_kinds) r.ws first-free.1.begins)

  pub first-parts : All IsFull (read_marks options state raw r) × AreSpaced r.ws
  first-parts =
      before-full (read_marks options state raw r) r.ws first-some (read-spaced options state raw r)

  pub first-hangs : IsHanging options first_block first_line.hanging
  first-hangs =
      hanging-is options state.in_block r.lead r.cs r.qs r.bs r.ws r.text.white first-parts.0 r.have

  pub first-text : IsOfText options first_block first_line.hanging state first_line
  first-text =
      text-line options first_block first_line.hanging state raw fed first_kinds apart refl refl first-parts.1

  pub first-unfenced : state.fence ≡ None
  first-unfenced = some-none state.fence first-free.0.fence

  pub first-begins : begins_text first_line.starred (first_word r.ws) ≡ true
  first-begins = first-free.1.begins

  pub first-keyed : (first_line.field && has_byte 45 (first_word r.ws)) ≡ false
  first-keyed = first-free.1.field

  -- its block comment has the same margin as those of the later lines
  pub first-starred : first_line.starred ≡ (first_block && not (has_byte 42 first_line.hanging))
  first-starred =
      let margin = hanging_of options.bare first_kinds in
      let bullets = hanging_bullets r.bs in
      let full_b = all-right IsFull r.qs r.bs (all-right IsFull r.cs (r.qs ++ r.bs) first-parts.0) in
      let none = none-any (λ c. c == 42) bullets
      (All-weaker IsWhite (λ c. (c == 42) ≡ false) (λ c white. white-other c 42 white refl) bullets
      (bullets-white r.bs full_b)) in
      ap (λ b. first_block && not b) (sym (list_any-append (λ c. c == 42) margin bullets
      ∙ ap (λ b. has_byte 42 margin || b) none ∙ or-false (has_byte 42 margin)))

  -- a new line with other words, of which the first is the same
  pub first-new : (others : List SpacedText) (new : List ℕ) (more : Bool)
      → without_returns new ≡ first_line.prefix ++ spaced_text others → AreSpaced others
      → 0 < length others → first_word r.ws ≡ first_word others
      → AreFree options.justify first_block first_line.starred first_line.field others
      → IsNew options first_block first_line.hanging state (line_as_read options state new more)
      first_line.prefix others
      × IsFirstAlike first_line (line_as_read options state new more)
  first-new others new more text spaced some same are =
      let k = kinds r.lead r.cs r.qs r.bs others in
      let box = text-other (starred_at options state first_kinds) (first_word r.ws) (codes "[")
      first-begins box-plain in
      let is = made-line options state new more r.lead r.cs r.qs r.bs others r.text.white first-parts.0 spaced
      (kinds-first options state.in_block r.cs r.qs r.bs r.ws others r.have first-some some same box) text in
      let letter = text-letter first_line.starred (first_word r.ws) first-begins in
      let keyed : (is_key (first_word others) && (length r.bs == 0)) ≡ first_line.field =
      ap (λ w. is_key w && (length r.bs == 0)) (sym same) in
      let fits : AreFree options.justify first_block first_line.starred (field_of k) others =
      subst (λ b. AreFree options.justify first_block first_line.starred b others) (sym keyed) are in
      let free : (line_by options state new more k).apart ≡ false =
      free-apart options state new more k first-free.0 fits in
      subst (λ l. IsNew options first_block first_line.hanging state l first_line.prefix others
      × IsFirstAlike first_line l) (sym is) (
        record {
          of = text-line options first_block first_line.hanging state new more k free refl refl spaced;
          apart = free;
          prefixed = refl;
          has = refl;
        },
        record {
          head = record {
            prefix = refl;
            hangs = refl;
            field = keyed;
            chosen = refl;
            apart = free ∙ sym apart;
            rule = letter-no-rule others (ap has_letter (sym same) ∙ letter) ∙ sym (letter-no-rule r.ws letter);
            opens = ap opens_paragraph (sym same);
          };
          starred = refl;
        },
      )
