-- The events kept for a log are those of what is told.
use Prim.Native.Nat.{ℕ, ◌+◌, ◌≤◌}
use native.Mathlib.Omega.{arith}
use mathlib.Core.Bool.{Bool, true, false, ◌&&◌}
use mathlib.Core.List.{List, [], ◌∷◌, ◌++◌, append_assoc, append-nil}
use mathlib.Core.Option.{Option, none, some}
use mathlib.Core.Path.{◌≡◌, refl, sym, ◌∙◌, ap₂}
use lib.Dec.{leb}
use lib.ListN.{length}
use borrow.Author.Tests.{le-leb, lt-ltb, leb-true}
use Rattle.rules.specs.Events.{plain}
use Rattle.rules.specs.Writing.{put_entry, put_entries}
use Rattle.rules.proofs.Judging.{both}
use Rattle.importing.specs.Import.{Item, request, reply, dropped, drops, gives, count, size, early, within}
use Rattle.importing.specs.Kept.{Tally, replied, Log, log, entry, logged, log_reply, log_given}
use Rattle.importing.specs.Promises.{tell, tells, nothing, entries_from, replies_of}

-- What is told is kept item by item, beside the tally t.
abbrev log_tell : Tally → Log → Item → Log
log_tell t l (request n m) = l
log_tell t l (reply ms m) = log_reply ms m t l
log_tell t l (dropped n) = l

module _ (room : ℕ) where
  unfoldable pub logs : Tally → Log → List Item → Log
  logs t l [] = l
  logs t l (x ∷ xs) = logs (tell room t x) (log_tell t l x) xs

  pub logs-behind : (t : Tally) (l : Log) (a b : List Item) → logs t l (a ++ b) ≡ logs (tells room t a) (logs t l a) b
  unfolding tells logs
  logs-behind t l [] b = refl
  logs-behind t l (x ∷ a) b = logs-behind (tell room t x) (log_tell t l x) a b

  -- What a line tells, by a tally that counts as t does.
  pub given-logged : (n time : ℕ) (d : Bool) (s : Option ℕ) (asked answered : Option (List ℕ)) (u t : Tally) (l : Log) → u.events ≡ t.events → u.bytes ≡ t.bytes →
      log_given s time answered u l ≡ logs t l (drops d n ++ gives s n time asked answered)
  unfolding logs log_given
  given-logged n time true none none answered u t l e b = refl
  given-logged n time false none none answered u t l e b = refl
  given-logged n time true none (some m) answered u t l e b = refl
  given-logged n time false none (some m) answered u t l e b = refl
  given-logged n time true (some s) asked none u t l e b = refl
  given-logged n time false (some s) asked none u t l e b = refl
  given-logged n time true (some s) asked (some m) u t l e b = rw (e, b)
  given-logged n time false (some s) asked (some m) u t l e b = rw (e, b)

  -- Where all of it is within the limits, all of it is kept.
  logs-from : (t : Tally) (l : Log) (is : List Item) → t.events + count is ≤ 512 → early is ≡ true → t.bytes + size is ≤ 65535 →
      logs t l is ≡ log (l.events ++ put_entries plain (entries_from t.bytes is)) (l.replies ++ replies_of is)
  unfolding logs
  logs-from t l [] few soon short = ap₂ log (sym (append-nil l.events)) (sym (append-nil l.replies))
  logs-from t l (request n m ∷ is) few soon short = logs-from (tell room t (request n m)) l is few soon short
  logs-from t l (dropped n ∷ is) few soon short = logs-from (tell room t (dropped n)) l is few soon short
  logs-from t l (reply ms m ∷ is) few soon short =
      let times = both (leb ms 4294967295) (early is) soon in
      let e = put_entry plain (entry ms t.bytes (length m)) in
      rw (lt-ltb t.events 512 (omega arith), times.0, le-leb (t.bytes + length m) 65535 (omega arith))
      (logs-from (replied room ms m t) (logged ms m t l) is (omega arith) times.1 (omega arith)
      ∙ ap₂ log (append_assoc l.events e (put_entries plain (entries_from (t.bytes + length m) is))) (append_assoc l.replies m (replies_of is)))

  pub logs-all : (is : List Item) → within is ≡ true → logs nothing (log [] []) is ≡ log (put_entries plain (entries_from 0 is)) (replies_of is)
  logs-all is w =
      let all = both (leb (count is) 512 && early is) (leb (size is) 65535) w in
      let first = both (leb (count is) 512) (early is) all.0 in
      logs-from nothing (log [] []) is (omega (arith, leb-true (count is) 512 first.0)) first.1 (omega (arith, leb-true (size is) 65535 all.1))
