-- The characters of a text, one after another: what is shown of them, and where they stand.
use Rattle.textwrap_text.proofs.Common.{encode_utf8_all, IsCharBoundary, encodes-chars, cases_Bool}
use Rattle.textwrap_text.proofs.Common.{length-append, shown_text, visible_in, stripped, next_of, ℕ}
use Rattle.textwrap_text.proofs.Common.{IsUtf8, get_or, length, State, arith, List, Text, cond, sym}
use Rattle.textwrap_text.proofs.Common.{drop, refl, ◌++◌, ◌+◌, ◌∙◌, ◌∷◌, ◌≡◌, ◌≤◌, [], ap}
use Rattle.std.specs.Prelude.{encode_utf8, chars}
use Rattle.textwrap_text.proofs.Units.Reading.{visible-step, read-ahead, read-start, read-next}
use Rattle.textwrap_text.proofs.Units.Reading.{read-room, IsRead}
use Rattle.textwrap_text.specs.Characters.{characters_from, characters_of, shown}
use Rattle.textwrap_text.specs.declared.characters.Character.{Character}

-- ---- what is shown of them

pub shown-from : (s : State) (at : ℕ) (cs : List ℕ)
    → shown (characters_from s at cs) ≡ visible_in s cs
shown-from s at [] = refl
shown-from s at (c ∷ cs) =
    grind (
      arith,
      cases_Bool,
      visible-step,
      shown-from (next_of s c) (at + length (encode_utf8 c)) cs,
    )

-- the visible characters of a text are those that are shown among its characters
pub shown-all : (text : List ℕ) → shown_text (characters_of text) ≡ stripped text
shown-all text = ap encode_utf8_all (shown-from Text 0 (chars text))

pub shown-next : (c : Character) (left : List Character) → length (shown_text (c ∷ left))
    ≡ cond c.is_visible (length (encode_utf8 c.ch)) 0 + length (shown_text left)
shown-next c left = grind (arith, cases_Bool, length-append)

-- ---- the characters that are ahead in a text, of which the first so many bytes were read

pub record AreAhead (text : List ℕ) (left : List Character) : Type 0 where
  pub state : State
  pub place : ℕ
  pub rest : List ℕ
  pub read : IsRead text place rest
  pub are : left ≡ characters_from state place (chars rest)

pub ahead-start : (text : List ℕ) → IsUtf8 text → AreAhead text (characters_of text)
ahead-start text utf8 = grind (arith, read-start)

-- the next of them stands there
pub record IsNext (text : List ℕ) (c : Character) (left : List Character) : Type 0 where
  pub begins : IsCharBoundary text c.at
  pub room : c.at + length (encode_utf8 c.ch) ≤ length text
  pub after : AreAhead text left

pub ahead-next : (text : List ℕ) (c : Character) (left : List Character)
    → AreAhead text (c ∷ left) → IsNext text c left
ahead-next text c left h = by (chars h.rest) refl h.are
  where
    by : (cs : List ℕ) → chars h.rest ≡ cs → c ∷ left ≡ characters_from h.state h.place cs
        → IsNext text c left
    by [] none is = absurd (omega (arith, ap length is))
    by (d ∷ ds) some is =
        let e : h.rest ≡ encode_utf8 d ++ encode_utf8_all ds =
        sym (encodes-chars h.rest h.read.utf8) ∙ ap encode_utf8_all some in
        let more : ds ≡ chars (encode_utf8_all ds) =
        ap (drop 1) (sym some ∙ read-ahead h.read d (encode_utf8_all ds) e) in
        rw (ap (λ l. get_or l 0 c) is, ap (drop 1) is) (record {
          begins = h.read.boundary;
          room = read-room h.read d (encode_utf8_all ds) e;
          after = record {
            state = next_of h.state d;
            place = h.place + length (encode_utf8 d);
            rest = encode_utf8_all ds;
            read = read-next h.read d (encode_utf8_all ds) e _ refl;
            are = ap (characters_from (next_of h.state d) (h.place + length (encode_utf8 d))) more;
          };
        })
