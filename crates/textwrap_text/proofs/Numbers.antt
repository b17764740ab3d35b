-- Numbers, tests of them, and results that hold them.
use Rattle.textwrap_text.proofs.Common.{if◌then◌else◌, eqb-false, nat_tests, cases_lt, SomeIff, Err}
use Rattle.textwrap_text.proofs.Common.{IsSome, Option, Result, nat_lt, arith, false, rules}
use Rattle.textwrap_text.proofs.Common.{Bool, IfOk, None, Some, refl, true, ◌==◌, ◌||◌, eqb, ℕ}
use Rattle.textwrap_text.proofs.Common.{min, not, suc, ◌+◌, ◌<◌, ◌^◌, ◌∙◌, ◌≡◌, ◌≤◌, ◌⊎◌, Ok}
use Rattle.std.specs.Result.{result_ok, OkIff}

pub some_from_test : (n : ℕ) → eqb n 0 ≡ false → 0 < n
some_from_test n e = let ne = eqb-false n 0 e in omega (arith, ne)

pub if_le : (test : Bool) (a b most : ℕ) → a ≤ most → b ≤ most → (if test then a else b) ≤ most
if_le true a b most h k = h
if_le false a b most h k = k

pub past_from_not : (n : ℕ) → ¬ (n < 2 ^ 128) → 2 ^ 128 ≤ n
past_from_not n h = omega arith

pub not_empty : (n m : ℕ) → n ≡ m → not (n == 0) ≡ nat_lt 0 m
not_empty n m is = grind (arith, nat_tests)

-- a line is out where one was out, or one was added
pub is_later-or : (now before added : ℕ) → now ≡ before + added
    → nat_lt 0 now ≡ nat_lt 0 before || nat_lt 0 added
is_later-or now before added is = grind (arith, nat_tests)

pub or_false : (b : Bool) → b || false ≡ b
or_false true = refl
or_false false = refl

pub some_later : (b : Bool) (n : ℕ) → b || nat_lt 0 (suc n) ≡ true
some_later true n = refl
some_later false n = grind (arith, nat_tests)

pub either_short : (a b n : ℕ) → n ≡ min a b → (a ≤ n) ⊎ (b ≤ n)
either_short a b n is = search (rules, arith, cases_lt)

pub some_where : (o : Option ℕ) (P : Type 0) (v : ℕ) → SomeIff o P v → P → IsSome o
some_where None P v h p = absurd (h p)
some_where (Some x) P v h p = search rules

pub value_where : (o : Option ℕ) (P : Type 0) (v x : ℕ) → SomeIff o P v → o ≡ Some x → x ≡ v
value_where None P v x h e = cc
value_where (Some y) P v x h e = let f : x ≡ y = cc in f ∙ h.1

-- where a conversion succeeds exactly at numbers that fit, so does its option
pub SomeIff-ok : {E : Type 0} (r : Result ℕ E) (P Q : Type 0) (v n : ℕ) → OkIff r P v
    → (P → Q × (v ≡ n)) → (Q → P) → SomeIff (result_ok r) Q n
SomeIff-ok (Ok x) P Q v n (fits, is) right all = ((right fits).0, is ∙ (right fits).1)
SomeIff-ok (Err e) P Q v n none right all = λ fits. none (all fits)

-- two facts on a value make a third
pub both : {T E : Type 0} (r : Result T E) (P Q R : T → Type 0) → ((x : T) → P x → Q x → R x)
    → IfOk r P → IfOk r Q → IfOk r R
both (Ok x) P Q R third one two = third x one two
both (Err e) P Q R third one two = tt
