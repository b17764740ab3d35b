-- Dictionaries of hyphenation, as C has them.
use Rattle.std.specs.Prelude.{◌≡◌, ◌≤◌, ℕ, ◌==◌, ◌&&◌, ◌||◌, false, length, nat_le, not, Bool, if◌then◌else◌}
use Rattle.textwrap_calls.specs.declared.dictionary.TextwrapDictionary.{TextwrapDictionary}
use Rattle.textwrap_hyphens.specs.{Hyphenation.Hyphenation, Seal.is_sealed, Table.held_in}

-- a number that says yes or no
abbrev pub says_yes : ℕ → Bool
says_yes n = not (n == 0)

-- a number of letters, where 0 stands for another one
abbrev pub minimum_or : ℕ → ℕ → ℕ
minimum_or number other = if number == 0 then other else number

-- with these numbers of letters before and behind a hyphen
abbrev pub with_letters : ℕ → ℕ → Hyphenation → Hyphenation
with_letters left right h =
    record h { left = minimum_or left h.left; right = minimum_or right h.right }

-- what a dictionary says of words, whatever its numbers are
abbrev pub hyphenation_of : TextwrapDictionary → Hyphenation
hyphenation_of d =
    record (with_letters d.left d.right (held_in d.numbers.now (says_yes d.in_parts))) {
      soft_hyphens = says_yes d.soft_hyphens;
    }

-- each number beside those of the dictionary means something
pub record IsKnownDictionary (d : TextwrapDictionary) : Type 0 where
  pub in_parts : d.in_parts ≤ 1
  pub is_checked : d.is_checked ≤ 1
  pub soft_hyphens : d.soft_hyphens ≤ 1
  pub reserved : d.reserved ≡ 0

-- it is to be tested, and its version or its sum is wrong
pub record IsDamaged (d : TextwrapDictionary) : Type 0 where
  pub is_tested : d.is_checked ≡ 0
  pub not_sealed : is_sealed d.numbers.now ≡ false

-- there is none, or it was not damaged; and each number beside its own means something
unfoldable pub is_whole : TextwrapDictionary → Bool
is_whole d =
    nat_le d.in_parts 1 && nat_le d.is_checked 1 && nat_le d.soft_hyphens 1 && (d.reserved == 0)
    && ((length d.numbers.now == 0) || not (d.is_checked == 0) || is_sealed d.numbers.now)
