-- What is open at a place of a text, as the code keeps it.
use Rattle.std.specs.Prelude.{◌≡◌, ◌<◌, ◌&&◌, ◌==◌, ℕ, List, bytes_eq, filter, length, map, false}
use Rattle.std.specs.Borrow.{Bor}
use Rattle.std.specs.BTreeSet.{contains}
use Rattle.std.specs.Cmp.Lexicographic.{slice_cmp}
use Rattle.std.specs.List.{flat_map, list_any, slice_index_or}
use Rattle.std.specs.Option.{option_copied, option_to_list}
use Rattle.std.specs.Ordering.{nat_cmp}
use Rattle.textwrap_text.specs.LentText.{as_len}
use Rattle.textwrap_styles.specs.Styles.{is_link, open_link, settings_of}
use Rattle.textwrap_styles.specs.Settings.{in_effect, is_unknown, kind_of, latest, number}
use Rattle.textwrap_styles.specs.Settings.{open_settings}
use Rattle.textwrap_styles.specs.declared.latest.Later.{Later}
use Rattle.textwrap_styles.specs.declared.styles.OpenStyles.{OpenStyles}

-- of the settings that are kept in the middle of a line, these are open
abbrev pub AreOpen : {Z : Type 0} → List (List ℕ) → OpenStyles Z → Type 0
AreOpen settings state = in_effect (latest (map (λ s. s.now) state.settings.items)) ≡ settings

-- and these settings alone are kept where a line begins
abbrev pub AreKept : {Z : Type 0} → List (List ℕ) → OpenStyles Z → Type 0
AreKept settings state = map (λ s. s.now) state.settings.items ≡ settings

-- this is open after these sequences, in the middle of a line
pub record IsReadTo {Z : Type 0} (before : List (List ℕ)) (state : OpenStyles Z) : Type 0 where
  pub settings : AreOpen (open_settings (flat_map settings_of before)) state
  pub link : option_to_list (option_copied state.link) ≡ open_link before
  pub links : state.links ≡ as_len (length (filter is_link before))

-- and where a line begins
pub record IsKeptAfter {Z : Type 0} (before : List (List ℕ)) (state : OpenStyles Z) : Type 0
  where
    pub settings : AreKept (open_settings (flat_map settings_of before)) state
    pub link : option_to_list (option_copied state.link) ≡ open_link before
    pub links : state.links ≡ as_len (length (filter is_link before))

-- these settings were added, the last ones first
pub record AreLater {Z : Type 0} (later : List (List ℕ)) (state : Later Z) : Type 0 where
  pub kinds : (n : ℕ) → n < 18
      → slice_index_or state.kinds n false ≡ list_any (λ t. number (kind_of t) == n) later
  pub unknown : (s : Bor (List ℕ)) → contains (λ x y. slice_cmp nat_cmp x.now y.now) state.unknown s
      ≡ list_any (λ t. is_unknown (kind_of t) && bytes_eq t s.now) later
