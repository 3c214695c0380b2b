-- How long a story can be: each line, and how many lines there are.
use Prim.Native.Nat.{ℕ, zero, suc, ◌+◌, ◌*◌, ◌/◌, ◌%◌, ◌≤◌}
use native.Mathlib.Omega.{arith}
use mathlib.Core.Bool.{Bool, true, false, cond, ◌&&◌, and-eq-true_iff}
use mathlib.Core.List.{List, [], ◌∷◌, ◌++◌, map}
use mathlib.Core.Option.{Option, none, some}
use mathlib.Core.Path.{◌≡◌, refl, ap}
use lib.Dec.{leb, ltb, eqb}
use borrow.Author.Tests.{leb-true}
use lib.ListN.{length, take, length-append, length-take, length-map}
use Rattle.rules.specs.After.{service_checks}
use Rattle.rules.specs.Answers.{Fault, deviation, deviation8, bad_length, overflow, Outcome, positive, suppressed, negative, timeout, pending_limit, disconnected, transport, fault, refused, Answer}
use Rattle.rules.specs.Bytes.{two}
use Rattle.rules.specs.Calls.{Call, request, session, reset, security, tester_present, read_memory, write_memory, read_identifier, write_identifier, fault_count, routine, download, upload, transfer, transfer_exit, fault_list, numbered}
use Rattle.rules.specs.Events.{Form, Entry, entries_from, event_of, foreign, named}
use Rattle.rules.specs.Exchange.{Asked, State, Settled, Turn, on, ends, turn}
use Rattle.rules.specs.InOrder.{Check}
use Rattle.rules.specs.Lines.{ascii, digit, decimal_to, decimal}
use Rattle.telling.specs.Story.{Line, read, late, over, unread, within, silent, cut, tell}
use Rattle.telling.specs.Words.{pairs, shown, what, timed, tail, goes_on, pick, break_words, on_text, breaks, number_of, judged, ending, end_text, did, passed, said, joined, mode, quiet, begins, concludes, declined}
use Rattle.telling.specs.Checks.{wanted_words, wanted_by, length?, wanted, check_line, told, first_wanted, told_of, lenient_line, is_positive, overflows, lenient_text, checks_text}
use Rattle.telling.proofs.Ways.{tell_none, tell-late, tell-on, tell-ends}

-- A choice is no longer than the longer of the two.
either : (n : ℕ) (b : Bool) (x y : List ℕ) → length x ≤ n → length y ≤ n → length (cond b x y) ≤ n
either n true x y h k = h
either n false x y h k = k

-- Nor is what a table has.
abbrev short : ℕ → List (ℕ × List ℕ) → Bool
short n [] = true
short n (w ∷ ws) = leb (length w.1) n && short n ws

picked : (n : ℕ) (ws : List (ℕ × List ℕ)) (other : List ℕ) (i : ℕ) → short n ws ≡ true → length other ≤ n → length (pick ws other i) ≤ n
picked n [] other i h k = k
picked n (w ∷ ws) other i h k =
    let tests = (and-eq-true_iff (leb (length w.1) n) (short n ws)).0 h in
    either n (eqb i w.0) w.1 (pick ws other i) (leb-true (length w.1) n tests.0) (picked n ws other i tests.1 k)

digits : (k v : ℕ) → length (decimal_to k v) ≤ k + 1
unfolding decimal_to
digits zero v = omega arith
digits (suc k) v = either (suc k + 1) (ltb v 10) (digit v ∷ []) (decimal_to k (v / 10) ++ (digit (v % 10) ∷ [])) (omega arith) (simp length-append (omega (arith, digits k (v / 10))))

pairs-long : (l : List ℕ) → length (pairs l) ≡ length l * 3
pairs-long [] = refl
pairs-long (b ∷ l) = omega (arith, pairs-long l)

pub shown-long : (bs : List ℕ) → length (shown bs) ≤ 56
unfolding shown
shown-long bs =
    let more : length (cond (leb (length bs) 8) [] (ascii " .. (" ++ decimal (length bs) ++ ascii " bytes)")) ≤ 32 =
    either 32 (leb (length bs) 8) [] (ascii " .. (" ++ decimal (length bs) ++ ascii " bytes)") (omega arith) (simp length-append (omega (arith, digits 19 (length bs)))) in
    simp length-append (omega (arith, pairs-long (take 8 bs), length-take 8 bs, more))

what-long : (listens : ℕ) (r : List ℕ) (e : Entry) → length (what listens r e) ≤ 71
unfolding what
what-long listens r e =
    let reply : length (cond (eqb e.source listens) (ascii "reply") (ascii "foreign reply") ++ shown (named r e).bytes) ≤ 71 =
    simp length-append (omega (arith, either 13 (eqb e.source listens) (ascii "reply") (ascii "foreign reply") (omega arith) (omega arith), shown-long (named r e).bytes)) in
    let failed : length (ascii "transport error" ++ shown (two e.size)) ≤ 71 = simp length-append (omega (arith, shown-long (two e.size))) in
    let error = ascii "transport error" ++ shown (two e.size) in
    let other = cond (eqb e.kind 2) (ascii "end of stream") error in
    either 71 (eqb e.kind 0) _ (cond (eqb e.kind 1) (ascii "idle") other) reply
    (either 71 (eqb e.kind 1) (ascii "idle") other (omega arith) (either 71 (eqb e.kind 2) (ascii "end of stream") error (omega arith) failed))

on-long : (listens : ℕ) (e : Entry) (b n k a : ℕ) → length (on_text listens e b n k a) ≤ 160
unfolding on_text
on-long listens e b n k a =
    let passes = ascii ": passed over (event " ++ goes_on n b (ascii "). The clock runs on: deadline ") a in
    let waits = ascii ": wait (notice " ++ goes_on k b (ascii "). A new clock starts: deadline ") a in
    let idles = ascii ": nothing was heard (event " ++ goes_on n b (ascii "). The clock runs on: deadline ") a in
    either 160 (foreign listens e) passes (cond (eqb e.kind 0) waits idles) (simp length-append (omega (arith, digits 19 n, digits 19 b, digits 19 a)))
    (either 160 (eqb e.kind 0) waits idles (simp length-append (omega (arith, digits 19 k, digits 19 b, digits 19 a))) (simp length-append (omega (arith, digits 19 n, digits 19 b, digits 19 a))))

breaks-long : (n : ℕ) → length (breaks n) ≤ 66
unfolding breaks
breaks-long n = picked 66 break_words (ascii ": it breaks a rule (event ") n refl (omega arith)

judged-long : (o : Outcome) → length (judged o) ≤ 66
unfolding judged
judged-long (positive p) = omega arith
judged-long suppressed = breaks-long 16
judged-long (negative c) = omega arith
judged-long timeout = breaks-long 16
judged-long pending_limit = omega arith
judged-long disconnected = omega arith
judged-long (transport n) = omega arith
judged-long (fault f) = breaks-long (number_of f)
judged-long (refused n) = breaks-long 16

end-long : (e : Entry) (b : ℕ) (o : Outcome) (n t : ℕ) → length (end_text e b o n t) ≤ 200
unfolding end_text
end-long e b o n t =
    let middle = either 49 (ltb e.time t) (ascii "). Call is to wait until ") (ascii "). Call ends at ") (omega arith) (omega arith) in
    simp length-append (omega (arith, judged-long o, digits 19 n, digits 19 t, digits 19 b, middle))

timed-long : (t : ℕ) (bs : List ℕ) → length (timed t bs) ≤ 25 + length bs
timed-long t bs = simp length-append (omega (arith, digits 19 t))

passed-long : (b : Bool) → length (passed b) ≤ 90
passed-long true = omega arith
passed-long false = omega arith

did-long : (listens : ℕ) (e : Entry) (s : State) (x : Turn) → length (did listens e s x) ≤ 200
did-long listens e s (on s') = omega (arith, on-long listens e s.deadline (length s'.read) (length s'.notices) s'.deadline)
did-long listens e s (ends x) = end-long e s.deadline x.outcome (length x.read) x.time

said-long : (listens : ℕ) (r : List ℕ) (x : Line) → length (said listens r x) ≤ 300
unfolding said
said-long listens r (read e s x) = simp length-append (omega (arith, digits 19 e.time, what-long listens r e, did-long listens e s x))
said-long listens r (late s) = omega (arith, timed-long s.deadline (passed s.hush), passed-long s.hush)
said-long listens r (over t) = omega (arith, timed-long t (ascii "the overall time is up. The call ends as timeout.\n"))
said-long listens r (unread e) = simp length-append (omega (arith, digits 19 e.time, what-long listens r e))

pub joined-long : (listens : ℕ) (r : List ℕ) (ls : List Line) → length (joined listens r ls) ≤ length ls * 300
joined-long listens r [] = omega arith
joined-long listens r (x ∷ ls) = simp length-append (omega (arith, said-long listens r x, joined-long listens r ls))

cut-long : (overall : Option ℕ) (x : Settled) → length (cut overall x) ≤ 1
cut-long none x = omega arith
cut-long (some overall) x = go (leb x.time overall)
  where
    go : (b : Bool) → length (cond b [] (over overall ∷ [])) ≤ 1
    go true = omega arith
    go false = omega arith

-- A line for each event, and one for what ends the call where that is no event.
pub tell-long : (strict : Bool) (a : Asked) (overall : Option ℕ) (listens : ℕ) (r : List ℕ) (es : List Entry) (s : State) → length (tell strict a overall listens r es s) ≤ suc (length es)
tell-long strict a overall listens r [] s = rw (tell_none strict a overall listens r s) (omega arith)
tell-long strict a overall listens r (e ∷ es) s = go (leb e.time s.deadline && within overall e.time) refl (tell-long strict a overall listens r es)
  where
    by_turn : (z : Turn) → turn strict a s (event_of listens r e) ≡ z → (leb e.time s.deadline && within overall e.time) ≡ true
        → ((s' : State) → length (tell strict a overall listens r es s') ≤ suc (length es)) → length (tell strict a overall listens r (e ∷ es) s) ≤ suc (suc (length es))
    by_turn (on s') t h more = rw (tell-on strict a overall listens r s e es s' h t) (omega (arith, more s'))
    by_turn (ends x) t h more = rw (tell-ends strict a overall listens r s e es x h t) (simp (length-append, length-map) (omega (arith, cut-long overall x)))

    go : (b : Bool) → (leb e.time s.deadline && within overall e.time) ≡ b
        → ((s' : State) → length (tell strict a overall listens r es s') ≤ suc (length es)) → length (tell strict a overall listens r (e ∷ es) s) ≤ suc (suc (length es))
    go true h more = by_turn (turn strict a s (event_of listens r e)) refl h more
    go false h more = rw (tell-late strict a overall listens r s e es h) (simp length-map (omega arith))

pub entries-long : (form : Form) (l : List ℕ) (n i : ℕ) → length (entries_from form l n i) ≡ n
unfolding entries_from
entries-long form l zero i = refl
entries-long form l (suc n) i = ap suc (entries-long form l n (suc i))

mode-long : (b : Bool) → length (ascii (mode b)) ≤ 14
mode-long true = omega arith
mode-long false = omega arith

quiet_long : (b : Bool) → length (ascii (quiet b)) ≤ 48
quiet_long true = omega arith
quiet_long false = omega arith

pub begins-long : (strict : Bool) (sent : List ℕ) (s : State) → length (begins strict sent s) ≤ 160
unfolding begins
begins-long strict sent s = simp length-append (omega (arith, shown-long sent, mode-long strict, quiet_long s.hush, digits 19 s.deadline))

wanted-by-long : (n : ℕ) → length (wanted_by n) ≤ 36
unfolding wanted_by
wanted-by-long n = picked 36 wanted_words (ascii "a length") n refl (omega arith)

length-long : (least : ℕ) (most : Option ℕ) → length (length? least most) ≤ 36
unfolding length?
length-long least none = simp length-append (omega (arith, digits 19 least))
length-long least (some most) = simp length-append (omega (arith, digits 19 least))

wanted-long : (f : Fault) → length (wanted f) ≤ 36
wanted-long (deviation n) = wanted-by-long n
wanted-long (deviation8 least most) = length-long least most
wanted-long bad_length = wanted-by-long 0
wanted-long overflow = wanted-by-long 16

line-long : (what : List ℕ) (b : Bool) → length what ≤ 36 → length (check_line what b) ≤ 60
line-long what true h = simp length-append (omega arith)
line-long what false h = simp length-append (omega arith)

told-long : (cs : List (Check Fault)) → length (told cs) ≤ length cs * 60
unfolding told
told-long [] = omega arith
told-long (c ∷ cs) =
    let first = simp length-append at (line-long (wanted c.fault) c.test (wanted-long c.fault)) in
    let rest = either (length cs * 60) c.test (told cs) [] (told-long cs) (omega arith) in
    simp length-append (omega arith)

first-long : (c : Call) (f : Fault) → length (first_wanted c f) ≤ 36
first-long c f = either 36 (eqb (numbered c) 15) (wanted_by 17) (wanted f) (wanted-by-long 17) (wanted-long f)

told-of-long : (c : Call) (cs : List (Check Fault)) → length (told_of c cs) ≤ length cs * 60
unfolding told_of
told-of-long c [] = omega arith
told-of-long c (x ∷ cs) =
    let first = simp length-append at (line-long (first_wanted c x.fault) x.test (first-long c x.fault)) in
    let rest = either (length cs * 60) x.test (told cs) [] (told-long cs) (omega arith) in
    simp length-append (omega arith)

few-checks : (c : Call) (r : List ℕ) → length (service_checks true c r) ≤ 6
few-checks (request sid sub x) r = omega arith
few-checks (session sub) r = omega arith
few-checks (reset sub) r = omega arith
few-checks (security sub x) r = omega arith
few-checks tester_present r = omega arith
few-checks (read_memory a s) r = omega arith
few-checks (write_memory a s x) r = omega arith
few-checks (read_identifier id) r = omega arith
few-checks (write_identifier id x) r = omega arith
few-checks (fault_count mask) r = omega arith
few-checks (routine sub id x) r = omega arith
few-checks (download c e a s) r = omega arith
few-checks (upload c e a s) r = omega arith
few-checks (transfer counter x) r = omega arith
few-checks (transfer_exit x) r = omega arith
few-checks (fault_list mask) r = omega arith

lenient-long : (b : Bool) → length (lenient_line b) ≤ 60
unfolding lenient_line
lenient-long b = line-long (ascii "the lengths that lenient needs") b (omega arith)

lenient-text-long : (o : Outcome) → length (lenient_text o) ≤ 120
unfolding lenient_text
lenient-text-long o =
    let wide = line-long (wanted_by 16) false (wanted-by-long 16) in
    either 120 (overflows o) (lenient_line true ++ check_line (wanted_by 16) false) (lenient_line (is_positive o))
    (simp length-append (omega (arith, lenient-long true, simp length-append at wide))) (omega (arith, lenient-long (is_positive o)))

pub checks-long : (strict : Bool) (c : Call) (r : List ℕ) (heard later : Outcome) → length (checks_text strict c r heard later) ≤ 360
checks-long true c r (positive p) later = omega (arith, told-of-long c (service_checks true c r), few-checks c r)
checks-long false c r (positive p) later = omega (arith, lenient-text-long later)
checks-long true c r suppressed later = omega arith
checks-long false c r suppressed later = omega arith
checks-long true c r (negative n) later = omega arith
checks-long false c r (negative n) later = omega arith
checks-long true c r timeout later = omega arith
checks-long false c r timeout later = omega arith
checks-long true c r pending_limit later = omega arith
checks-long false c r pending_limit later = omega arith
checks-long true c r disconnected later = omega arith
checks-long false c r disconnected later = omega arith
checks-long true c r (transport n) later = omega arith
checks-long false c r (transport n) later = omega arith
checks-long true c r (fault f) later = omega arith
checks-long false c r (fault f) later = omega arith
checks-long true c r (refused n) later = omega arith
checks-long false c r (refused n) later = omega arith

pub concludes-long : (x : Answer) → length (concludes x) ≤ 120
unfolding concludes
concludes-long x = simp length-append (omega (arith, digits 19 x.time, digits 19 x.events, digits 19 x.notices))

pub declined-long : (n : ℕ) → length (declined n) ≤ 120
unfolding declined
declined-long n =
    let about = either 66 (eqb n 10) (ascii "The call is not made: its list of events breaks a limit, refusal ") (ascii "The call is not made: what it asks for is not allowed, refusal ") (omega arith) (omega arith) in
    simp length-append (omega (arith, digits 19 n, about))
