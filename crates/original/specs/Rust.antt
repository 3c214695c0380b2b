-- What the client uses of Rust and of tokio: how an `async fn` runs, the clock, the transport, and the panics of an index.
use Rattle.std.specs.Prelude.{ℕ, ◌+◌, ◌-◌, ◌*◌, ◌^◌, max, Bool, true, false, cond, ◌&&◌, List, [], ◌∷◌, leb, ltb, length, get_or, take, drop}
use Rattle.std.specs.Int.Bits.{bit_or}
use Rattle.rules.specs.Settings.{Timing}

-- What a call changes: the clock, the messages sent (the last first), and `*self.session_timing` (`SessionParameterRecord`: p2_server_max,
-- p2_star_server_max).
pub record World : Type 0 where
  pub now : ℕ
  pub sent : List (List ℕ)
  pub timing : Timing

abbrev pub world : ℕ → List (List ℕ) → Timing → World
world now sent timing = record { now = now; sent = sent; timing = timing }

-- How a run ends: `Ok`, `Err`, or a panic.
pub data Run (E A : Type 0) : Type 0 where
  ok : A → World → Run E A
  err : E → World → Run E A
  panics : World → Run E A

abbrev pub world_of : {E A : Type 0} → Run E A → World
world_of (ok x w) = w
world_of (err e w) = w
world_of (panics w) = w

abbrev pub and_then : {E A B : Type 0} → Run E A → (A → World → Run E B) → Run E B
and_then (ok x w) k = k x w
and_then (err e w) k = err e w
and_then (panics w) k = panics w

infixl 10 ◌>>=◌ ◌>>◌
-- `x ← m` is `let x = m.await?;`
abbrev pub ◌>>=◌ : {E A B : Type 0} → (World → Run E A) → (A → World → Run E B) → World → Run E B
◌>>=◌ m k = λ w. and_then (m w) k

abbrev pub ◌>>◌ : {E B : Type 0} → (World → Run E (Unit {0})) → (World → Run E B) → World → Run E B
◌>>◌ m k = λ w. and_then (m w) (λ u. k)

abbrev pub return_err : {E A : Type 0} → E → World → Run E A
return_err e = λ w. err e w

-- `if test { return Err(e); }`
abbrev pub return_if : {E : Type 0} → Bool → E → World → Run E (Unit {0})
return_if test e = λ w. cond test (err e w) (ok tt w)

-- `if test { m.await; }`
abbrev pub do_if : {E : Type 0} → Bool → (World → Run E (Unit {0})) → World → Run E (Unit {0})
do_if test m = λ w. cond test (m w) (ok tt w)

-- `if test { m } else { n }`
abbrev pub if_else : {E A : Type 0} → Bool → (World → Run E A) → (World → Run E A) → World → Run E A
if_else test m n = λ w. cond test (m w) (n w)

-- `assert!(test)`
abbrev pub assert : {E : Type 0} → Bool → World → Run E (Unit {0})
assert test = λ w. cond test (ok tt w) (panics w)

-- `s[i]`, `s[i..]`, `s[i..j]`
abbrev pub index : {E : Type 0} → List ℕ → ℕ → World → Run E ℕ
index s i = λ w. cond (ltb i (length s)) (ok (get_or s i 0) w) (panics w)

abbrev pub slice_from : {E : Type 0} → List ℕ → ℕ → World → Run E (List ℕ)
slice_from s i = λ w. cond (leb i (length s)) (ok (drop i s) w) (panics w)

abbrev pub slice : {E : Type 0} → List ℕ → ℕ → ℕ → World → Run E (List ℕ)
slice s i j = λ w. cond (leb i j && leb j (length s)) (ok (take (j - i) (drop i s)) w) (panics w)

-- `x << n`, for an x that loses no bit by it
abbrev pub shl : ℕ → ℕ → ℕ
shl x n = x * 2 ^ n

-- `.iter().fold(0u128, |acc, &byte| (acc << 8) | u128::from(byte))`, of at most 15 bytes
abbrev pub fold_from : ℕ → List ℕ → ℕ
fold_from acc [] = acc
fold_from acc (byte ∷ bytes) = fold_from (bit_or (shl acc 8) byte) bytes

-- `is_empty`, `is_none`
abbrev pub is_empty : List ℕ → Bool
is_empty [] = true
is_empty (x ∷ xs) = false

-- `adapter.send(&message).await?`, which "succeeds at once"
abbrev pub send : {E : Type 0} → List ℕ → World → Run E (Unit {0})
send message = λ w. ok tt (world w.now (message ∷ w.sent) w.timing)

-- `*self.session_timing.read().unwrap()`, and `*self.session_timing.write().unwrap() = timing`
abbrev pub read_timing : {E : Type 0} → World → Run E Timing
read_timing = λ w. ok w.timing w

abbrev pub write_timing : {E : Type 0} → Timing → World → Run E (Unit {0})
write_timing timing = λ w. ok tt (world w.now w.sent timing)

-- `tokio::time::Instant::now()`, `tokio::time::sleep_until(t).await`
abbrev pub instant_now : {E : Type 0} → World → Run E ℕ
instant_now = λ w. ok w.now w

abbrev pub sleep_until : {E : Type 0} → ℕ → World → Run E (Unit {0})
sleep_until t = λ w. ok tt (world (max w.now t) w.sent w.timing)

-- `tokio::time::timeout(limit, m).await.map_err(|_| e)?`: what m gives if it is ready by then, and else `Err(e)` at the limit. A future that is
-- dropped keeps what it did before; the one that is dropped here has sent, at once, and set nothing.
abbrev pub timeout : {E A : Type 0} → ℕ → E → (World → Run E A) → World → Run E A
timeout limit e m = λ w.
    let late = world_of (m w) in
    cond (leb late.now (w.now + limit)) (m w) (err e (world (w.now + limit) late.sent late.timing))
