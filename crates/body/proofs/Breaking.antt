-- Where fields one after another broke, from what holds of each of them at its position.
use Prim.Native.Nat.{ℕ, ◌≤◌}
use native.Mathlib.Omega.{arith}
use mathlib.Core.Path.{◌≡◌, refl, sym, ap, subst, ◌∙◌}
use mathlib.Core.List.{List, [], ◌∷◌, ◌++◌}
use mathlib.Core.Bool.{Bool, true, false, cond}
use lib.ListN.{length, take, length-append}
use lib.Seq.{take-take, take-append-le}
use Rattle.lists.proofs.Cases.{lt-or-le, split}
use Rattle.body.specs.declared.Failure.{Failure}
use Rattle.body.specs.declared.Failure.TheVariants as failure
use Rattle.body.specs.declared.Fault.{Fault}
use Rattle.body.specs.Fields.{Read, got, failed, fault, short, Reader, and_then, for_each}
use Rattle.body.specs.Breaks.{Reached, NotBefore, Sized, CutShort, Decided, ByFailure}
use Rattle.body.proofs.Holds.{same_value, same_next}

-- two lists that agree in m bytes agree in fewer
pub agree-fewer : (s t : List ℕ) (n m : ℕ) → n ≤ m → take m t ≡ take m s → take n t ≡ take n s
agree-fewer s t n m l e = sym (take-take n m t l) ∙ (ap (take n) e ∙ take-take n m s l)

-- ---- what holds of a reader at a position of a body
module _ {A : Type 0} (f : Reader A) (s : List ℕ) (at : ℕ) where
  -- a value that ends at n within the body: the bytes before n decide it
  pub record Whole (a : A) (n : ℕ) : Type 0 where
    pub on : at ≤ n
    pub end : n ≤ length s
    pub same : (t : List ℕ) → take n t ≡ take n s → f t at ≡ got a n

  module _ (sized : Sized) where
    pub record BrokeAt (x : Fault) : Type 0 where
      pub from : at ≤ x.start
      pub inside : x.start ≤ length s
      pub before : Reached x.start (f (take x.start s) at)
      pub why : ByFailure (λ b. f b at) sized s x x.failure

    abbrev pub BreaksAt : Type 0
    BreaksAt = (x : Fault) → f s at ≡ failed x → BrokeAt x

    -- and the bytes before a failing field are short of it
    pub record Regular : Type 0 where
      pub values : (a : A) (n : ℕ) → f s at ≡ got a n → Whole a n
      pub strict : (x : Fault) → f s at ≡ failed x → f (take x.start s) at ≡ short x.start
      pub breaks : BreaksAt

-- within every body
abbrev pub Ordinary : {A : Type 0} → Sized → Reader A → Type 0
Ordinary sized f = (s : List ℕ) (at : ℕ) → at ≤ length s → Regular f s at sized

pub reached-short : {A : Type 0} (start : ℕ) (x : Read A) → x ≡ short start → Reached start x
unfolding Reached
reached-short start x e = rw e refl

-- why it broke, of one reader and of another
module _ {A B : Type 0} (F : List ℕ → Read A) (G : List ℕ → Read B) (sized : Sized) (s : List ℕ) (x : Fault) where
  pub why-too : (CutShort F sized s x → CutShort G sized s x) → (Decided F sized s x → Decided G sized s x) → (k : Failure)
      → ByFailure F sized s x k → ByFailure G sized s x k
  unfolding ByFailure
  why-too c d failure.Short h = c h
  why-too c d failure.OutOfRange h = d h
  why-too c d failure.NotPlain h = d h

-- ---- fields one after another, the first from `at` on, in bodies that begin as one does
module _ {A B : Type 0} (sized : Sized) (f : Reader A) (g : A → Reader B) (at : ℕ) (begin : List ℕ)
    (first : (s : List ℕ) → at ≤ length s → take at s ≡ take at begin → Regular f s at sized) where
  abbrev both : Reader B
  both s n = and_then (f s n) λ a k. g a s k

  both-got : (s : List ℕ) (a : A) (n : ℕ) → f s at ≡ got a n → both s at ≡ g a s n
  both-got s a n e = rw e

  both-failed : (s : List ℕ) (x : Fault) → f s at ≡ failed x → both s at ≡ failed x
  both-failed s x e = rw e

  same-fault : (x y : Fault) → ◌≡◌ {A = Read B} (failed x) (failed y) → x ≡ y
  same-fault x y e = cc

  not-both : (x : Read A) (a : A) (n : ℕ) (z : Fault) → x ≡ got a n → x ≡ failed z → ⊥
  not-both x a n z p q = let e : got a n ≡ failed z = sym p ∙ q in let w : ◌≡◌ {A = ℕ} 0 1 = cc in omega (arith, w)

  module _ (later : (s : List ℕ) (a : A) (n : ℕ) → n ≤ length s → take at s ≡ take at begin → f s at ≡ got a n → BreaksAt (g a) s n sized) where
    -- no field of a longer body fails before one that the first lacks
    longer-fails : (s : List ℕ) (a : A) (n start : ℕ) → start ≤ n → n ≤ length s → take at s ≡ take at begin → f s at ≡ got a n
        → (y : Read B) → g a s n ≡ y → NotBefore start y
    unfolding NotBefore
    longer-fails s a n start l k b e (got c m) q = tt
    longer-fails s a n start l k b e (failed w) q = omega (arith, (later s a n k b e w q).from)

    longer-first : (s more : List ℕ) (x : Fault) → at ≤ length s → take at s ≡ take at begin → x.start ≤ length s → f s at ≡ failed x
        → (y : Read A) → f (s ++ more) at ≡ y → NotBefore x.start y → NotBefore x.start (both (s ++ more) at)
    unfolding NotBefore
    longer-first s more x l b i e (failed w) q h = rw (both-failed (s ++ more) w q) h
    longer-first s more x l b i e (got a n) q h =
        let k : at ≤ length (s ++ more) = rw length-append (omega arith) in
        let c : take at (s ++ more) ≡ take at begin = take-append-le at s more l ∙ b in
        let w = (first (s ++ more) k c).values a n q in
        subst (NotBefore x.start) (sym (both-got (s ++ more) a n q))
        (split (lt-or-le (length s) n)
        (λ m. longer-fails (s ++ more) a n x.start (omega arith) w.end c q (g a (s ++ more) n) refl)
        (λ m. absurd (not-both (f s at) a n x (w.same s (sym (take-append-le n s more m))) e)))

    module _ (s : List ℕ) (l : at ≤ length s) (b : take at s ≡ take at begin) where
      -- the first fails
      first-broke : (x : Fault) → f s at ≡ failed x → BrokeAt both s at sized x
      first-broke x e =
          let r = first s l b in
          let h = r.breaks x e in
          let i = h.inside in
          record {
            from = h.from;
            inside = i;
            before = reached-short x.start _ (both-failed (take x.start s) (fault failure.Short x.start) (r.strict x e));
            why =
                why-too (λ t. f t at) (λ t. both t at) sized s x
                (λ c. record { ends = c.ends; longer = λ more. longer-first s more x l b i e (f (s ++ more) at) refl (c.longer more) })
                (λ d. record { end = d.end; some = d.some; inside = d.inside; field = d.field; alike = λ other q. both-failed other x (d.alike other q) })
                x.failure h.why;
          }

      -- a later one fails
      later-broke : (a : A) (n : ℕ) → f s at ≡ got a n → (x : Fault) → g a s n ≡ failed x → BrokeAt both s at sized x
      later-broke a n e x q =
          let w = (first s l b).values a n e in
          let h = later s a n w.end b e x q in
          let o = h.from in
          record {
            from = omega (arith, w.on, o);
            inside = h.inside;
            before =
                subst (Reached x.start) (sym (both-got (take x.start s) a n (w.same (take x.start s) (take-take n x.start s o)))) h.before;
            why =
                why-too (λ t. g a t n) (λ t. both t at) sized s x
                (λ c. record {
                  ends = c.ends;
                  longer = λ more.
                      subst (NotBefore x.start) (sym (both-got (s ++ more) a n (w.same (s ++ more) (take-append-le n s more w.end)))) (c.longer more);
                })
                (λ d.
                let p : n ≤ d.end = omega (arith, o, d.some) in
                record {
                  end = d.end;
                  some = d.some;
                  inside = d.inside;
                  field = d.field;
                  alike = λ other r. both-got other a n (w.same other (agree-fewer s other n d.end p r)) ∙ d.alike other r;
                })
                x.failure h.why;
          }

      breaks-by : (y : Read A) → f s at ≡ y → (x : Fault) → both s at ≡ failed x → BrokeAt both s at sized x
      breaks-by (got a n) q x e = later-broke a n q x (sym (both-got s a n q) ∙ e)
      breaks-by (failed z) q x e = subst (BrokeAt both s at sized) (same-fault z x (sym (both-failed s z q) ∙ e)) (first-broke z q)

      pub then-breaks : BreaksAt both s at sized
      then-breaks = breaks-by (f s at) refl

  module _ (later : (s : List ℕ) (a : A) (n : ℕ) → n ≤ length s → take at s ≡ take at begin → f s at ≡ got a n → Regular (g a) s n sized)
      (s : List ℕ) (l : at ≤ length s) (b : take at s ≡ take at begin) where
    values-by : (y : Read A) → f s at ≡ y → (c : B) (m : ℕ) → both s at ≡ got c m → Whole both s at c m
    values-by (got a n) q c m e =
        let w = (first s l b).values a n q in
        let v = (later s a n w.end b q).values c m (sym (both-got s a n q) ∙ e) in
        record {
          on = omega (arith, w.on, v.on);
          end = v.end;
          same = λ t k. both-got t a n (w.same t (agree-fewer s t n m v.on k)) ∙ v.same t k;
        }
    values-by (failed z) q c m e =
        absurd (let p : failed z ≡ got c m = sym (both-failed s z q) ∙ e in let w : ◌≡◌ {A = ℕ} 0 1 = cc in omega (arith, w))

    strict-by : (y : Read A) → f s at ≡ y → (x : Fault) → both s at ≡ failed x → both (take x.start s) at ≡ short x.start
    strict-by (got a n) q x e =
        let w = (first s l b).values a n q in
        let r = later s a n w.end b q in
        let p = sym (both-got s a n q) ∙ e in
        both-got (take x.start s) a n (w.same (take x.start s) (take-take n x.start s (r.breaks x p).from)) ∙ r.strict x p
    strict-by (failed z) q x e =
        subst (λ (y : Fault). both (take y.start s) at ≡ short y.start) (same-fault z x (sym (both-failed s z q) ∙ e))
        (both-failed (take z.start s) (fault failure.Short z.start) ((first s l b).strict z q))

    pub then-regular : Regular both s at sized
    then-regular = record {
      values = values-by (f s at) refl;
      strict = strict-by (f s at) refl;
      breaks = then-breaks (λ t a n k c e. (later t a n k c e).breaks) s l b;
    }

-- ---- nothing read, one of two, and one for each type
module _ {A : Type 0} (sized : Sized) where
  pub got-regular : (a : A) → Ordinary sized λ s at. got a at
  got-regular a s at l = record {
    values = λ c n e.
        let p : a ≡ c = same_value a c at n e in
        let q : at ≡ n = same_next a c at n e in
        record { on = omega arith; end = omega arith; same = λ t k. rw (p, q) };
    strict = λ x e. absurd (let w : ◌≡◌ {A = ℕ} 0 1 = cc in omega (arith, w));
    breaks = λ x e. absurd (let w : ◌≡◌ {A = ℕ} 0 1 = cc in omega (arith, w));
  }

  pub cond-regular : (b : Bool) (f g : Reader A) (s : List ℕ) (at : ℕ) → (b ≡ true → Regular f s at sized) → (b ≡ false → Regular g s at sized)
      → Regular (λ t n. cond b (f t n) (g t n)) s at sized
  cond-regular true f g s at h k = h refl
  cond-regular false f g s at h k = k refl

-- a first field that is regular wherever it stands
module _ {A B : Type 0} (sized : Sized) (f : Reader A) (g : A → Reader B) (at : ℕ) (s : List ℕ) (l : at ≤ length s) (h : Ordinary sized f) where
  pub next-regular : ((t : List ℕ) (a : A) (n : ℕ) → n ≤ length t → f t at ≡ got a n → Regular (g a) t n sized)
      → Regular (λ t n. and_then (f t n) λ a k. g a t k) s at sized
  next-regular later = then-regular sized f g at s (λ t k b. h t at k) (λ t a n k b e. later t a n k e) s l refl

  pub next-breaks : ((t : List ℕ) (a : A) (n : ℕ) → n ≤ length t → f t at ≡ got a n → BreaksAt (g a) t n sized)
      → BreaksAt (λ t n. and_then (f t n) λ a k. g a t k) s at sized
  next-breaks later = then-breaks sized f g at s (λ t k b. h t at k) (λ t a n k b e. later t a n k e) s l refl

pub each-regular : (sized : Sized) (field : ℕ → Reader ℕ) → ((t : ℕ) → Ordinary sized (field t)) → (ts : List ℕ) → Ordinary sized (for_each field ts)
unfolding for_each
each-regular sized field h [] s at l = got-regular sized [] s at l
each-regular sized field h (t ∷ ts) s at l =
    next-regular sized (field t) (λ v b n. and_then (for_each field ts b n) λ vs m. got (v ∷ vs) m) at s l (h t)
    (λ b v n k e. next-regular sized (for_each field ts) (λ vs c m. got (v ∷ vs) m) n b k (each-regular sized field h ts) (λ c vs m i q. got-regular sized (v ∷ vs) c m i))
