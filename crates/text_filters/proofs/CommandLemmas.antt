-- Lemmas on the command line as a value: what the builders make of it, and what a parse gives.
use Rattle.clap.specs.{Simple.{app_of_fields, on_top}, Words.{App, FailsBy, HasMatchesOf, Text}}
use Rattle.clap.specs.Words.{fault_of, found_of, is_simple, is_simple_and_free, matches_of, rows_of}
use Rattle.clap.specs.declared.builder.command.Command.{Command, TheOpen.Command-F}
use Rattle.clap.specs.declared.{error.Error.Error, parser.matches.ArgMatches.ArgMatches}
use Rattle.std.proofs.Common.{◌≡◌, ap, refl, subst, List, [], true, Option, None, Some, Bor, map}
use Rattle.std.proofs.Common.{option_map, unwrap_or, Result}

-- a command with a version
abbrev pub versioned : App → App
versioned = on_top (λ s. record s { has_version = true })

pub versioned-is : (old new : Command-F Command) (version : Bor Text)
    → new ≡ record old { version = Some version }
    → app_of_fields new ≡ versioned (app_of_fields old)
versioned-is old new version is = ap app_of_fields is

-- what a command is about makes no difference
pub about-is : (old new : Command-F Command) (about : Bor Text)
    → new ≡ record old { about = Some about } → app_of_fields new ≡ app_of_fields old
about-is old new about is = ap app_of_fields is

-- nor does what stands at the end of its help
pub after_help-is : (old new : Command-F Command) (text : Bor Text)
    → new ≡ record old { after_help = Some text } → app_of_fields new ≡ app_of_fields old
after_help-is old new text is = ap app_of_fields is

-- a command of whose arguments the last use counts
abbrev pub overriding : App → App
overriding = on_top (λ s. record s { args_override_self = true })

pub overriding-is : (old new : Command-F Command)
    → new ≡ record old { args_override_self = true }
    → app_of_fields new ≡ overriding (app_of_fields old)
overriding-is old new is = ap app_of_fields is

-- a command whose words do not begin with its name
abbrev pub nameless : App → App
nameless = on_top (λ s. record s { no_binary_name = true })

pub nameless-is : (old new : Command-F Command) → new ≡ record old { no_binary_name = true }
    → app_of_fields new ≡ nameless (app_of_fields old)
nameless-is old new is = ap app_of_fields is

-- ---- a parse

pub matches-are : (app a : App) (words : List Text) → is_simple app ≡ true → app ≡ a
    → (matches : ArgMatches) → HasMatchesOf a words matches
    → rows_of (found_of matches) ≡ matches_of app words
matches-are app a words simple is matches =
    subst (λ b. HasMatchesOf b words matches
    → rows_of (found_of matches) ≡ matches_of app words) is (λ has. (has simple).0)

pub kinds-are : (app a : App) (words : List Text) (result : Result ArgMatches Error)
    → is_simple_and_free app ≡ true → app ≡ a
    → (is_simple_and_free a ≡ true → FailsBy (fault_of a words) result)
    → FailsBy (fault_of app words) result
kinds-are app a words result free is =
    subst (λ b. (is_simple_and_free b ≡ true → FailsBy (fault_of b words) result)
    → FailsBy (fault_of app words) result) is (λ fails. fails free)

-- the texts of an argument, or none
pub unwrap_or-texts : (texts : Option (Bor (List (Bor Text)))) (default : Bor (List (Bor Text)))
    → default.now ≡ [] → map (λ text. text.now) (unwrap_or texts default).now
    ≡ unwrap_or (option_map (λ t. map (λ text. text.now) t.now) texts) []
unwrap_or-texts None default is = ap (map (λ text. text.now)) is
unwrap_or-texts (Some texts) default is = refl
