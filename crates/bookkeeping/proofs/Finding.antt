-- What is found in a book, and in one with a log more.
use Prim.Native.Nat.{ℕ, zero, suc, ◌+◌, ◌≤◌, ◌<◌}
use native.Mathlib.Omega.{arith}
use mathlib.Core.Bool.{Bool, true, false, cond}
use mathlib.Core.List.{List, [], ◌∷◌, ◌++◌}
use mathlib.Core.Path.{◌≡◌, refl, sym, ◌∙◌, ap}
use lib.Dec.{ltb, eqb}
use lib.ListN.{length, get_or, length-append, get_or-append}
use lib.Seq.{get_or-append_seam}
use borrow.Author.Tests.{ltb-true, lt-ltb, eqb-true, eq-eqb}
use Rattle.rules.specs.InOrder.{unless}
use Rattle.rules.proofs.Judging.{judge-pass, judge-inv}
use Rattle.bookkeeping.specs.Layout.{call_byte, logs_in}
use Rattle.bookkeeping.specs.Book.{is_book, of_call, refused, gives, find}
use Rattle.bookkeeping.specs.Promises.{FindsTheNew, FindsTheOld, FindsThatLog}
use Rattle.bookkeeping.proofs.Books.{adding-gives-a-book}

of-append : (c : ℕ) (xs ys : List (List ℕ)) → of_call c (xs ++ ys) ≡ of_call c xs ++ of_call c ys
of-append c [] ys = refl
of-append c (x ∷ xs) ys = go (eqb (call_byte x) c) (of-append c xs ys)
  where
    go : (b : Bool) → of_call c (xs ++ ys) ≡ of_call c xs ++ of_call c ys
        → cond b (x ∷ of_call c (xs ++ ys)) (of_call c (xs ++ ys)) ≡ cond b (x ∷ of_call c xs) (of_call c xs) ++ of_call c ys
    go true h = ap (λ (l : List (List ℕ)). x ∷ l) h
    go false h = h

module _ (b : List ℕ) (c k : ℕ) where
  pub record Found (x : List ℕ) : Type 0 where
    pub book : is_book b ≡ true
    pub there : k < length (of_call c (logs_in b))
    pub is : get_or (of_call c (logs_in b)) k [] ≡ x

  found : (x : List ℕ) → Found x → find b c k ≡ gives x
  unfolding find
  found x f =
      let ls = of_call c (logs_in b) in
      judge-pass refused (unless (is_book b) 25 ∷ unless (ltb k (length ls)) 24 ∷ []) (gives (get_or ls k []))
      (f.book, (lt-ltb k (length ls) f.there, tt)) ∙
      ap gives f.is

  found-so : (x : List ℕ) → find b c k ≡ gives x → Found x
  unfolding find
  found-so x e =
      let ls = of_call c (logs_in b) in
      let p = judge-inv refused (unless (is_book b) 25 ∷ unless (ltb k (length ls)) 24 ∷ []) {x = gives (get_or ls k [])} {y = gives x} never e in
      record { book = p.0.0; there = ltb-true k (length ls) p.0.1.0; is = same_gives (get_or ls k []) p.1 }
    where
      never : (f : ℕ) → refused f ≡ gives x → ⊥
      never f z = let y : ◌≡◌ {A = ℕ} 0 1 = cc in omega arith

      same_gives : (y : List ℕ) → gives y ≡ gives x → y ≡ x
      same_gives y z = cc

pub finds-the-new : FindsTheNew
finds-the-new b log new e =
    let g = adding-gives-a-book b log new e in
    let c = call_byte log in
    let ls = of_call c (logs_in b) in
    let now : of_call c (logs_in new) ≡ ls ++ (log ∷ []) =
    ap (of_call c) g.1 ∙ of-append c (logs_in b) (log ∷ []) ∙ ap (λ (t : Bool). ls ++ cond t (log ∷ []) []) (eq-eqb c c refl)
    in
    found new c (length ls) log (record {
      book = g.0;
      there = rw now (omega (arith, length-append ls (log ∷ [])));
      is = rw now (get_or-append_seam ls log [] []);
    })

pub finds-the-old : FindsTheOld
finds-the-old b log new e c k x f =
    let g = adding-gives-a-book b log new e in
    let o = found-so b c k x f in
    let ls = of_call c (logs_in b) in
    let more = of_call c (log ∷ []) in
    let now : of_call c (logs_in new) ≡ ls ++ more = ap (of_call c) g.1 ∙ of-append c (logs_in b) (log ∷ []) in
    found new c k x (record {
      book = g.0;
      there = rw now (omega (arith, o.there, length-append ls more));
      is = rw now (get_or-append ls more [] k o.there ∙ o.is);
    })

-- The k-th of those of a call stands behind k of that call.
record Among (c k : ℕ) (ls these : List (List ℕ)) : Type 0 where
  before : List (List ℕ)
  behind : List (List ℕ)
  is : ls ≡ before ++ (get_or these k [] ∷ behind)
  call : call_byte (get_or these k []) ≡ c
  number : length (of_call c before) ≡ k

among : (c k : ℕ) (ls : List (List ℕ)) → k < length (of_call c ls) → Among c k ls (of_call c ls)
among c k [] h = absurd (omega arith)
among c k (l ∷ ls) h = go (eqb (call_byte l) c) refl k h (λ m q. among c m ls q)
  where
    these : Bool → List (List ℕ)
    these t = cond t (l ∷ of_call c ls) (of_call c ls)

    -- The m-th of the others, which is the k-th of all.
    further : (t : Bool) (k m : ℕ) → eqb (call_byte l) c ≡ t → Among c m ls (of_call c ls) → get_or (these t) k [] ≡ get_or (of_call c ls) m []
        → ((n : ℕ) → n ≡ m → length (cond t (l ∷ []) []) + n ≡ k) → Among c k (l ∷ ls) (these t)
    further t k m e r same long = record {
      before = l ∷ r.before;
      behind = r.behind;
      is = ap (λ (x : List (List ℕ)). l ∷ x) (r.is ∙ ap (λ (x : List ℕ). r.before ++ (x ∷ r.behind)) (sym same));
      call = ap call_byte same ∙ r.call;
      number = counted t e ∙ long (length (of_call c r.before)) r.number;
    }
      where
        counted : (t : Bool) → eqb (call_byte l) c ≡ t → length (of_call c (l ∷ r.before)) ≡ length (cond t (l ∷ []) []) + length (of_call c r.before)
        counted true e = rw e (omega arith)
        counted false e = rw e (omega arith)

    go : (t : Bool) → eqb (call_byte l) c ≡ t → (k : ℕ) → k < length (these t)
        → ((m : ℕ) → m < length (of_call c ls) → Among c m ls (of_call c ls)) → Among c k (l ∷ ls) (these t)
    go true e zero h others = record { before = []; behind = ls; is = refl; call = eqb-true (call_byte l) c e; number = refl }
    go true e (suc k) h others = further true (suc k) k e (others k (omega arith)) refl (λ n q. omega arith)
    go false e k h others = further false k k e (others k h) refl (λ n q. omega arith)

pub finds-that-log : FindsThatLog
finds-that-log b c k x e =
    let f = found-so b c k x e in
    let r = among c k (logs_in b) f.there in
    (r.before, r.behind, r.is ∙ ap (λ (y : List ℕ). r.before ++ (y ∷ r.behind)) f.is, ap call_byte (sym f.is) ∙ r.call, r.number)
