-- Two results are equal just where they tell the same. Assumes nothing.
use Rattle.std.proofs.Common.{◌≡◌, ℕ, true, cond, Ok, Err, Bool, Decides, Result, ◌==◌, sym, refl, ap, ◌∙◌, rules, arith}
use Rattle.std.specs.Result.{result_eq}
use denote.Enum.Bare.{sameb, same_true, true_same}
use Rattle.tokens.specs.Refusals.{answered, refused, number, told}
use Rattle.tokens.specs.declared.calls.Answer.{Answer}
use Rattle.tokens.specs.declared.refusal.Refusal.{Refusal}
use Rattle.tokens.specs.declared.refusal.Refusal.TheVariants.{NoTokens, BeforeLatest, AfterDayEnd, RateOrBurst}
use Rattle.tokens.specs.contracts.calls.Answer.{the_type as the_answer}
use Rattle.tokens.specs.contracts.refusal.Refusal.{the_type as the_refusal}
use Rattle.std.proofs.lemmas.Bool.{false≢true}

abbrev numbered : ℕ → Refusal
numbered n = cond (n == 8) NoTokens (cond (n == 10) BeforeLatest (cond (n == 11) AfterDayEnd RateOrBurst))

numbered_back : (e : Refusal) → numbered (number e) ≡ e
numbered_back NoTokens = refl
numbered_back BeforeLatest = refl
numbered_back AfterDayEnd = refl
numbered_back RateOrBurst = refl

abbrev pub equal : Result Answer Refusal → Result Answer Refusal → Bool
equal = result_eq (sameb the_answer) (sameb the_refusal)

equal_tell_alike : (a b : Result Answer Refusal) → equal a b ≡ true → told a ≡ told b
equal_tell_alike (Ok x) (Ok y) same = ap answered (same_true the_answer (search rules) x y same)
equal_tell_alike (Ok x) (Err d) same = absurd (false≢true same)
equal_tell_alike (Err e) (Ok y) same = absurd (false≢true same)
equal_tell_alike (Err e) (Err d) same = ap (λ cause. refused (number cause)) (same_true the_refusal (search rules) e d same)

alike_are_equal : (a b : Result Answer Refusal) → told a ≡ told b → equal a b ≡ true
alike_are_equal (Ok x) (Ok y) alike = let same : x ≡ y = cc in true_same the_answer x y same
alike_are_equal (Ok x) (Err d) alike = let none : ◌≡◌ {A = ℕ} 0 1 = cc in absurd (omega arith)
alike_are_equal (Err e) (Ok y) alike = let none : ◌≡◌ {A = ℕ} 0 1 = cc in absurd (omega arith)
alike_are_equal (Err e) (Err d) alike =
    let numbers : number e ≡ number d = cc in
    true_same the_refusal e d (sym (numbered_back e) ∙ ap numbered numbers ∙ numbered_back d)

pub equal_decides : (a b : Result Answer Refusal) → Decides (equal a b) (told a ≡ told b)
equal_decides a b = (equal_tell_alike a b, alike_are_equal a b)
