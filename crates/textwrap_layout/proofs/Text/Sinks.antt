-- Lines, the places that they were cut from, and what takes them.
use Rattle.textwrap_text.proofs.Common.{flat_map-append, nil_from_length, length-append, append-nil}
use Rattle.textwrap_text.proofs.Common.{paragraphs_of, append_assoc, ending_bytes, length_push, Err}
use Rattle.textwrap_text.proofs.Common.{length-map, map-append, join_with, eqb-true, flat_map, Bool}
use Rattle.textwrap_text.proofs.Common.{Result, length, lt-ltb, nat_lt, arith, false, rules, subst}
use Rattle.textwrap_text.proofs.Common.{List, OnOk, cond, refl, true, ◌++◌, ◌||◌, map, sym, ◌+◌, Ok}
use Rattle.textwrap_text.proofs.Common.{◌<◌, ◌∙◌, ◌∷◌, ◌≡◌, ◌≤◌, [], ap, ℕ}
use Rattle.textwrap_layout.proofs.Common.{AreParagraphParts, assembled_line, HasPlacesMore, CutLine}
use Rattle.textwrap_layout.proofs.Common.{AreCutLines, built_bytes, built_text, line_bytes, further}
use Rattle.textwrap_layout.proofs.Common.{parts_from, AddsPlace, AreGroups, LineParts, cut_lines}
use Rattle.textwrap_layout.proofs.Common.{line_from, places_of, text_cuts, Settings, WordText, Line}
use Rattle.textwrap_layout.proofs.Common.{cut_line, lines_of, parts_of, place_of, tiled, Pushed}
use Rattle.textwrap_layout.proofs.Paragraph.LeftOff.{parts_of-tile}
use Rattle.textwrap_text.specs.LentText.{IsLent}
use Rattle.textwrap_layout.specs.LineSinks.{HoldsLentPlaces, HoldsPlaces, LentOneMore, HasOneMore}
use Rattle.textwrap_layout.specs.LineSinks.{HoldsLent, HoldsText}
use Rattle.textwrap_layout.specs.declared.lent_places.LentLinePlaces.{LentLinePlaces}
use Rattle.textwrap_layout.specs.declared.line_sinks.JoinedLines.{JoinedLines}
use Rattle.textwrap_layout.specs.declared.line_sinks.LentLines.{LentLines}
use Rattle.textwrap_layout.specs.declared.places.PlacedLines.{PlacedLines}
use Rattle.textwrap_layout.proofs.Text.Lines.{join-push}
use Rattle.textwrap_text.proofs.Numbers.{is_later-or}
use Rattle.textwrap_layout.proofs.Text.Paragraphs.{join-paragraphs_of, rest-within}

-- ---- the lines

pub lines_of-more : (cuts : List CutLine) (start : ℕ) (more : List CutLine)
    → lines_of (cuts ++ map (further start) more) ≡ lines_of cuts ++ lines_of more
lines_of-more [] start [] = refl
lines_of-more [] start (cut ∷ more) = ap (λ ls. cut.line ∷ ls) (lines_of-more [] start more)
lines_of-more (first ∷ cuts) start more = ap (λ ls. first.line ∷ ls) (lines_of-more cuts start more)

pub lines_of-cut_lines : (at : ℕ) (parts : List LineParts)
    → lines_of (cut_lines at parts) ≡ map line_from parts
lines_of-cut_lines at [] = refl
lines_of-cut_lines at (p ∷ parts) =
    ap (λ ls. line_from p ∷ ls) (lines_of-cut_lines (at + length (p.slice ++ p.left_off)) parts)

-- the lines of a paragraph that begins so many bytes later
pub further-cut_lines : (start at : ℕ) (parts : List LineParts)
    → map (further start) (cut_lines at parts) ≡ cut_lines (start + at) parts
further-cut_lines start at [] = refl
further-cut_lines start at (p ∷ parts) =
    grind (arith, further-cut_lines start (at + (length (p.slice ++ p.left_off))) parts)

-- the line of some pieces, and those after it
pub cut_lines-next : (settings : Settings) (is_later : Bool) (at after : ℕ)
    (pieces : List WordText) (others : List (List WordText)) → after ≡ at + length (tiled pieces)
    → cut_lines at (parts_from settings is_later (pieces ∷ others))
    ≡ cut_line at (line_from (parts_of settings is_later pieces))
    ∷ cut_lines after (parts_from settings true others)
cut_lines-next settings is_later at after pieces others is = grind (arith, parts_of-tile)

-- ---- the places where they stand

pub length-places_of : (used : ℕ) (cuts : List CutLine) → length (places_of used cuts) ≡ length cuts
length-places_of used [] = refl
length-places_of used (cut ∷ cuts) =
    let more = length-places_of (used + length (built_bytes cut.line)) cuts in omega (arith, more)

pub places_of-push : (used after : ℕ) (cuts : List CutLine) (cut : CutLine)
    → after ≡ used + length (built_text (lines_of cuts))
    → places_of used (cuts ++ cut ∷ [])
    ≡ places_of used cuts ++ place_of cut.at after cut.line ∷ []
places_of-push used after [] cut is = grind arith
places_of-push used after (first ∷ cuts) cut is =
    let own = length (built_bytes first.line) in
    let sum = length-append (built_bytes first.line) (built_text (lines_of cuts)) in
    rw (places_of-push (used + own) after cuts cut (omega (arith, is, sum)))

pub built_text-push : (cuts : List CutLine) (cut : CutLine)
    → built_text (lines_of (cuts ++ cut ∷ []))
    ≡ built_text (lines_of cuts) ++ built_bytes cut.line
built_text-push cuts cut = grind (arith, map-append, flat_map-append, append-nil)

-- ---- lemmas on what takes lines, one after another

pub on_ok_both : {T E P Q R : Type 0} (result : Result T E) → (P → Q → R) → OnOk result P
    → OnOk result Q → OnOk result R
on_ok_both (Ok value) joins one two = joins one two
on_ok_both (Err error) joins one two = tt

-- ---- a text with one more line

pub joined-more : (separator text bytes : List ℕ) (begun : Bool) (before : List Line) (line : Line)
    → text ≡ join_with separator (map line_bytes before) → begun ≡ nat_lt 0 (length before)
    → bytes ≡ line_bytes line
    → cond begun (text ++ separator ++ bytes) (text ++ bytes)
    ≡ join_with separator (map line_bytes (before ++ line ∷ []))
joined-more separator text bytes begun [] line given none is = grind arith
joined-more separator text bytes begun (first ∷ before) line given some is =
    grind (arith, lt-ltb, join-push, map-append)

module _ {Z : Type 0} where
  pub Pushed-joined : (old new : JoinedLines Z) (bytes : List ℕ) (at : ℕ) (line : Line)
      → bytes ≡ line_bytes line → HasOneMore old new bytes
      → Pushed (λ first now start. HoldsText first now) old new (cut_line at line ∷ [])
  Pushed-joined old new bytes at line is more = record {
    held = λ first start before given. record {
      text = cc (
        more.text,
        joined-more (ending_bytes first.line_ending) _ bytes old.has_lines (lines_of before) line
            given.text (given.has_lines
            ∙ ap (nat_lt 0) (sym (length-map before (λ (c : CutLine). c.line)))) is,
        lines_of-more before start (cut_line at line ∷ []),
        given.ending,
      );
      ending = more.ending ∙ given.ending;
      has_lines = search (rules, arith, lt-ltb, length_push);
    };
  }

  pub Pushed-placed : (old new : PlacedLines Z) (at : ℕ) (line : Line)
      → new.places.items ≡ old.places.items
      ++ place_of (old.offset + at) (length old.built.items) line ∷ []
      → new.built.items ≡ old.built.items ++ built_bytes line → new.offset ≡ old.offset
      → Pushed (λ first. HoldsPlaces) old new (cut_line at line ∷ [])
  Pushed-placed old new at line places built offset = record {
    held = λ first start before given.
        let cut = cut_line (start + at) line in
        let used = ap length given.built in record {
          places = rw (places, given.offset, given.places)
              (sym (places_of-push 0 (length old.built.items) before cut (omega (arith, used))));
          built = rw (built, given.built) (sym (built_text-push before cut));
          offset = offset ∙ given.offset;
        };
  }

pub Pushed-lent : (old new : LentLines) (bytes : List ℕ) (at : ℕ) (line : Line)
    → bytes ≡ line_bytes line → LentOneMore old new bytes
    → Pushed (λ first now start. HoldsLent first now) old new (cut_line at line ∷ [])
Pushed-lent old new bytes at line is more = record {
  held = λ first start before given. record {
    same = more.same ∙ given.same;
    text = subst (λ text. IsLent new.text.now text first.text.now.room.now)
        (cc (
          joined-more (ending_bytes first.line_ending) _ bytes old.has_lines (lines_of before) line
              refl (given.has_lines
              ∙ ap (nat_lt 0) (sym (length-map before (λ (c : CutLine). c.line)))) is,
          lines_of-more before start (cut_line at line ∷ []),
          given.ending,
        )) (more.text _ first.text.now.room.now given.text);
    ending = more.ending ∙ given.ending;
    has_lines = search (rules, arith, lt-ltb, length_push);
  };
}

pub Pushed-lent-places : (old new : LentLinePlaces) (at : ℕ) (line : Line)
    → AddsPlace old.placed.now new.placed.now (old.placed.now.offset + at) line
    → Pushed HoldsLentPlaces old new (cut_line at line ∷ [])
Pushed-lent-places old new at line adds = record {
  held = λ first start before given.
      let cut = cut_line (start + at) line in
      let used = length (built_text (lines_of before)) in
      let more = adds.placed (places_of 0 before) (built_text (lines_of before))
      first.placed.now.lines.now first.placed.now.room.now given.placed in record {
        same_lines = adds.keeps.lines ∙ given.same_lines;
        same_room = adds.keeps.room ∙ given.same_room;
        placed = rw (places_of-push 0 used before cut (omega arith), built_text-push before cut)
            (rw given.offset at more);
        offset = adds.keeps.offset ∙ given.offset;
      };
}

-- some of all lines were taken, and these are left
pub record HasTaken {S : Type 0} (Holds : S → S → ℕ → List CutLine → Type 0)
    (all : List CutLine) (old now : S) (left : List CutLine) : Type 0 where
  pub taken : List CutLine
  pub pushed : Pushed Holds old now taken
  pub are : all ≡ taken ++ left

-- ---- one after another

module _ {S : Type 0} {Holds : S → S → ℕ → List CutLine → Type 0} where
  pub Pushed-then : (first next last : S) (xs ys : List CutLine) → Pushed Holds first next xs
      → Pushed Holds next last ys → Pushed Holds first last (xs ++ ys)
  Pushed-then first next last xs ys one two = record {
    held = λ sink start before holds. rw (map-append, ← append_assoc)
        (two.held sink start (before ++ map (further start) xs)
        (one.held sink start before holds));
  }

  pub HasTaken-start : (all : List CutLine) (sink : S) → HasTaken Holds all sink sink all
  HasTaken-start all sink = record { taken = []; pushed = grind (arith, append-nil); are = refl }

  pub HasTaken-next : (all : List CutLine) (old now next : S) (cut : CutLine)
      (left : List CutLine) → HasTaken Holds all old now (cut ∷ left)
      → Pushed Holds now next (cut ∷ []) → HasTaken Holds all old next left
  HasTaken-next all old now next cut left so_far one = record {
    taken = so_far.taken ++ cut ∷ [];
    pushed = Pushed-then old now next so_far.taken (cut ∷ []) so_far.pushed one;
    are = so_far.are ∙ sym (append_assoc so_far.taken (cut ∷ []) left);
  }

  pub HasTaken-end : (all : List CutLine) (old now : S) → HasTaken Holds all old now []
      → Pushed Holds old now all
  HasTaken-end all old now so_far =
      subst (Pushed Holds old now) (sym (so_far.are ∙ append-nil so_far.taken)) so_far.pushed

nothing_added : (indent slice penalty : List ℕ) → length (indent ++ penalty) ≡ 0
    → indent ++ slice ++ penalty ≡ slice
nothing_added [] slice penalty none = search (rules, arith, nil_from_length)
nothing_added (i ∷ indent) slice penalty none = absurd (omega (arith, none))

pub assembled-bytes : (indent slice penalty : List ℕ)
    → indent ++ slice ++ penalty ≡ line_bytes (assembled_line indent slice penalty)
assembled-bytes indent slice penalty = grind (arith, nothing_added, eqb-true)

-- ---- where lines stand

-- lines of a paragraph that were taken came after those that stood there
pub HasPlaces-pushed : {Z : Type 0} (old begun new : PlacedLines Z) (start : ℕ)
    (lines : List CutLine) → ((first : PlacedLines Z) (at : ℕ) (held : List CutLine)
    → HoldsPlaces old at held → HoldsPlaces begun start held)
    → Pushed (λ (first : PlacedLines Z) now at held. HoldsPlaces now at held) begun new lines
    → HasPlacesMore old new (map (further start) lines)
HasPlaces-pushed old begun new start lines begins took = λ before (places, built).
    let held = took.held old start before (begins old old.offset before
    (record { places = places; built = built; offset = refl })) in
    (held.places, held.built)

-- ---- the lines of a text that a sink took, one paragraph after another

module _ (settings : Settings) (Divides : Bool → List ℕ → List (List WordText) → Type 0)
    {S : Type 0} (Holds : S → S → ℕ → List CutLine → Type 0) where
  -- the lines of the paragraphs so far were taken, where those that are left begin at `start`: with
  -- right lines of these they are the lines of the text
  pub record HasParagraphs (text : List ℕ) (first now : S) (left : List (List ℕ)) (start : ℕ)
      : Type 0 where
    pub done : List (List ℕ)
    pub paragraphs : paragraphs_of settings.line_ending text ≡ done ++ left
    pub lines : List CutLine
    pub groups : List (List LineParts)
    pub given : lines_of lines ≡ map line_from (flat_map (λ parts. parts) groups)
    pub more : (others : List (List LineParts))
        → AreGroups (AreParagraphParts settings Divides) (nat_lt 0 (length lines)) left others
        → AreGroups (AreParagraphParts settings Divides) false
        (paragraphs_of settings.line_ending text) (groups ++ others)
    pub cuts : (others : List (List LineParts))
        → text_cuts (length (ending_bytes settings.line_ending)) 0
        (paragraphs_of settings.line_ending text) (groups ++ others)
        ≡ lines ++ text_cuts (length (ending_bytes settings.line_ending)) start left others
    pub place : ℕ
    pub held : Holds first now place lines
    pub within : 0 < length left
        → start + length (join_with (ending_bytes settings.line_ending) left) ≤ length text

  pub HasParagraphs-start : (text : List ℕ) (sink : S) → Holds sink sink 0 []
      → HasParagraphs text sink sink (paragraphs_of settings.line_ending text) 0
  HasParagraphs-start text sink none = record {
    done = [];
    paragraphs = refl;
    lines = [];
    groups = [];
    given = refl;
    more = λ others are. are;
    cuts = λ others. refl;
    place = 0;
    held = none;
    within = λ some. omega (arith, ap length (join-paragraphs_of settings.line_ending text));
  }

  pub HasParagraphs-more : (text : List ℕ) (first now begun then : S)
      (after : List (List ℕ)) (start next : ℕ) (paragraph : List ℕ) (is_later : Bool)
      → HasParagraphs text first now (paragraph ∷ after) start
      → next ≡ start + (length paragraph + length (ending_bytes settings.line_ending))
      → ((sink : S) (place : ℕ) (held : List CutLine) → Holds sink now place held
      → Holds sink begun start held)
      → ((sink : S) (place : ℕ) (held : List CutLine) → Holds sink begun place held
      → is_later ≡ nat_lt 0 (length held))
      → (parts : List LineParts) × AreParagraphParts settings Divides is_later paragraph parts
      × Pushed Holds begun then (cut_lines 0 parts)
      → HasParagraphs text first then after next
  HasParagraphs-more text first now begun then after start next paragraph is_later so_far next_is
      begins is_out (parts, are, took) =
      let here = cut_lines start parts in
      let held = begins first so_far.place so_far.lines so_far.held in
      let from_start : start + 0 ≡ start = omega arith in
      let cuts : map (further start) (cut_lines 0 parts) ≡ here =
      further-cut_lines start 0 parts ∙ ap (λ n. cut_lines n parts) from_start in
      let own : length here ≡ length parts = sym (length-map here (λ (cut : CutLine). cut.line))
      ∙ ap length (lines_of-cut_lines start parts) ∙ length-map parts line_from in
      let later : nat_lt 0 (length (so_far.lines ++ here))
      ≡ nat_lt 0 (length so_far.lines) || nat_lt 0 (length parts) =
      is_later-or (length (so_far.lines ++ here)) (length so_far.lines) (length parts)
      (omega (arith, length-append so_far.lines here, own)) in
      let ends : start + length paragraph + length (ending_bytes settings.line_ending) ≡ next =
      omega (arith, next_is) in
      record {
        done = so_far.done ++ paragraph ∷ [];
        paragraphs = so_far.paragraphs ∙ sym (append_assoc so_far.done (paragraph ∷ []) after);
        lines = so_far.lines ++ here;
        groups = so_far.groups ++ parts ∷ [];
        given = rw (
          map-append (λ (cut : CutLine). cut.line) so_far.lines here,
          so_far.given,
          lines_of-cut_lines start parts,
        ) (sym (grind (arith, flat_map-append, append-nil, map-append)));
        more = λ others rest. rw append_assoc (so_far.more (parts ∷ others)
            (rw (is_out first start so_far.lines held) at are, rw later at rest));
        cuts = λ others. simp (append_assoc, so_far.cuts (parts ∷ others), ends);
        place = start;
        held = rw cuts at (took.held first start so_far.lines held);
        within = λ some.
            let rest = rest-within (ending_bytes settings.line_ending) paragraph after start
            (length text) (so_far.within (omega arith)) some in
            omega (arith, rest, next_is);
      }

  pub HasParagraphs-end : (text : List ℕ) (first now : S) (start : ℕ)
      → HasParagraphs text first now [] start
      → (taken : List CutLine) × AreCutLines settings Divides text taken × (end : ℕ)
      × Holds first now end taken
  HasParagraphs-end text first now start all = (
    all.lines,
    record {
      are = record {
        groups = all.groups;
        defined = rw append-nil at (all.more [] refl);
        given = all.given;
      };
      cuts_are = sym (simp append-nil at (all.cuts []));
    },
    all.place,
    all.held,
  )
