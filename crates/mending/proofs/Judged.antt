-- What mending answers, by its two tests; and the header and the areas that a mended log comes of.
use Prim.Native.Nat.{ℕ, ◌+◌, ◌≤◌}
use native.Mathlib.Omega.{arith}
use mathlib.Core.Bool.{true, false}
use mathlib.Core.List.{List, [], ◌∷◌}
use mathlib.Core.Path.{◌≡◌, refl, sym, ◌∙◌, ap, subst}
use lib.ListN.{length}
use lib.Seq.{take_all}
use borrow.Author.Tests.{leb-true}
use Rattle.rules.specs.InOrder.{unless}
use Rattle.rules.specs.Logs.{Header, header_size, form_in, header_of}
use Rattle.rules.proofs.Judging.{judge-pass, judge-inv}
use Rattle.mending.specs.Mend.{mended_header, mended_log, Report, report, refused, mended, headed, argued, mending, readable, mend}

-- By the bytes that are read, and their header.
pub as_read : (l m : List ℕ) (h : Header) → m ≡ readable l → h ≡ header_of m → mend l ≡ mending h m
unfolding mend
as_read l m h read found = sym (ap (λ (g : Header). mending g m) found ∙ ap (λ (x : List ℕ). mending (header_of x) x) read)

-- Of bytes that are all read.
pub all_read : (l : List ℕ) → length l ≤ 65535 → mend l ≡ mending (header_of l) l
all_read l short = as_read l l (header_of l) (sym (take_all 65535 l short)) refl

module _ (h : Header) (m : List ℕ) where
  pub gives-18 : headed h m ≡ false → mending h m ≡ refused 18
  gives-18 e = rw e

  pub gives-19 : headed h m ≡ true → argued h m ≡ false → mending h m ≡ refused 19
  gives-19 e a = rw (e, a)

  pub gives-log : headed h m ≡ true → argued h m ≡ true → mending h m ≡ mended (mended_log h m) (report h (mended_header h m))
  gives-log e a = judge-pass refused (unless (headed h m) 18 ∷ unless (argued h m) 19 ∷ []) (mended (mended_log h m) (report h (mended_header h m))) (e, (a, tt))

-- A mended log comes of bytes that are read, with a header and arguments.
pub record Came (l out : List ℕ) (r : Report) : Type 0 where
  pub head : headed (header_of (readable l)) (readable l) ≡ true
  pub whole : header_size (form_in (header_of (readable l))) + (header_of (readable l)).arguments ≤ length (readable l)
  pub log : mended_log (header_of (readable l)) (readable l) ≡ out
  pub told : report (header_of (readable l)) (mended_header (header_of (readable l)) (readable l)) ≡ r

pub never : (n : ℕ) {out : List ℕ} {r : Report} → refused n ≡ mended out r → ⊥
never n e = let z : ◌≡◌ {A = ℕ} 0 1 = cc in omega arith

the-log : {a out : List ℕ} {b r : Report} → mended a b ≡ mended out r → a ≡ out
the-log e = cc

the-report : {a out : List ℕ} {b r : Report} → mended a b ≡ mended out r → b ≡ r
the-report e = cc

pub came : (l out : List ℕ) (r : Report) → mend l ≡ mended out r → Came l out r
unfolding mend
came l out r e =
    let m = readable l in
    let h = header_of m in
    let x = mended (mended_log h m) (report h (mended_header h m)) in
    let p = judge-inv refused (unless (headed h m) 18 ∷ unless (argued h m) 19 ∷ []) {x = x} {y = mended out r} (λ n. never n) e in
    record {
      head = p.0.0;
      whole = leb-true (header_size (form_in h) + h.arguments) (length m) p.0.1.0;
      log = the-log p.1;
      told = the-report p.1;
    }

-- So what holds of the log that is written and of its report holds of what was answered.
pub carried : (P : List ℕ → Report → Type 0) (l out : List ℕ) (r : Report) → Came l out r → let h = header_of (readable l) in
    P (mended_log h (readable l)) (report h (mended_header h (readable l))) → P out r
carried P l out r c p =
    let h = header_of (readable l) in
    subst (λ (x : Report). P out x) c.told (subst (λ (x : List ℕ). P x (report h (mended_header h (readable l)))) c.log p)
