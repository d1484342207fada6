use Rattle.std.proofs.Common.{rules, arith, ◌≡◌, refl, Bool, true, false, List, [], ◌∷◌, length, not, sym, ap, ◌∙◌}
use Rattle.lists.specs.Lists.{every, distinct}
use Rattle.lists.proofs.Cases.{and-true, and-false}
use Rattle.lists.proofs.all_distinct.Goals as goal

module _ {A : Type 0} (alike : A → A → Bool) where
  step : (rest others : List A) (x : A) (r : Bool) → rest ≡ x ∷ others → r ≡ every (λ y. not (alike x y)) others → r ≡ true
      → distinct alike rest ≡ distinct alike others
  unfolding distinct
  step rest others x r e f t = ap (distinct alike) e ∙ and-true _ _ (sym f ∙ t)

  stop : (rest others : List A) (x : A) (r : Bool) → rest ≡ x ∷ others → r ≡ every (λ y. not (alike x y)) others → r ≡ false
      → false ≡ distinct alike rest
  unfolding distinct
  stop rest others x r e f t = sym (ap (distinct alike) e ∙ and-false _ _ (sym f ∙ t))

  end : (rest : List A) → length rest ≡ 0 → true ≡ distinct alike rest
  unfolding distinct
  end [] e = refl
  end (x ∷ xs) e = absurd (omega arith)

pub returns-then-not-apart : goal.returns-then-not-apart
returns-then-not-apart g c =
    stop g.A.Apart.alike c.loop-x.rest.now c.in-Some.others.now c.in-Some.x.now c.apart.result (search rules) c.apart.ensures (search rules)
    ∙ sym c.loop-x.invariant

pub loop-x-preserved : goal.loop-x-preserved
loop-x-preserved g c =
    c.loop-x.invariant
    ∙ step g.A.Apart.alike c.loop-x.rest.now c.in-Some.others.now c.in-Some.x.now c.apart.result (search rules) c.apart.ensures (search rules)

pub returns : goal.returns
returns g c = end g.A.Apart.alike c.loop-x.rest.now (search rules) ∙ sym c.loop-x.invariant
