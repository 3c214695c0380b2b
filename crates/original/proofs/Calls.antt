-- Call by call: what the Rust does behind request_exchange is what document 01 checks and hands out.
use Prim.Native.Nat.{ℕ, suc, ◌+◌, ◌*◌, ◌%◌, ◌/◌, ◌^◌, ◌≤◌, ◌<◌}
use native.Mathlib.Omega.{arith}
use mathlib.Core.Bool.{Bool, true, false, cond, not, ◌&&◌, ◌||◌, false≢true}
use mathlib.Core.Path.{◌≡◌, refl, sym, ◌∙◌, ap, ap₂, subst}
use mathlib.Core.List.{List, [], ◌∷◌, ◌++◌}
use mathlib.Core.Option.{Option, none, some}
use lib.Bits.{bit_or}
use lib.Dec.{leb, ltb, eqb, leb-suc-suc}
use lib.ListN.{length, get_or, take, drop, drop_of_length-le}
use lib.Seq.{take-append_seam}
use borrow.Author.Tests.{ltb-false, leb-true, lt-ltb, le-leb, eqb-true, eqb-false, eq-eqb, ne_eqb}
use Rattle.rules.specs.After.{after, checked, most, at_least, strictly, reset_length, transfer_length, adopted, loading, length_bytes, block_length}
use Rattle.rules.specs.Answers.{part, suppressed, if_positive, fault}
use Rattle.rules.specs.Bytes.{every, is_byte, two, value, u16_at, same}
use Rattle.rules.specs.Calls.{Call, request, session, reset, security, tester_present, read_memory, write_memory, read_identifier, write_identifier}
use Rattle.rules.specs.Calls.{fault_count, routine, download, upload, transfer, transfer_exit, fault_list, head, suppresses, sid_of, sub_of, with_bit7}
use Rattle.rules.specs.Calls.{request_of, byte, parameters, or_none, Field, sent, memory, format}
use Rattle.rules.specs.Client.{asked, answered}
use Rattle.rules.specs.Conversations.{Every}
use Rattle.rules.specs.Counts.{Rising}
use Rattle.rules.specs.Events.{Event}
use Rattle.rules.specs.Exchange.{exchange}
use Rattle.rules.specs.InOrder.{Check, in_strict, judge}
use Rattle.rules.specs.Refusals.{key, arguments, between, width, lengths, methods}
use Rattle.rules.specs.Settings.{Timing, Setting, Lent}
use Rattle.rules.proofs.Inside.{exchange-headed}
use Rattle.rules.proofs.Judging.{both, judge-append}
use Rattle.rules.proofs.Writing.{every_take}
use Rattle.rules.proofs.Limits.{OfBytes}
use Rattle.original.specs.Rust.{World, world, Run, ok, err, and_then, ◌>>=◌, ◌>>◌, do_if, if_else, index, slice_from, is_empty, shl}
use Rattle.original.specs.Errors.{Error}
use Rattle.original.specs.Client
use Rattle.original.specs.Client.{Ok, is_none, UDSConfig, Response, response, RequestOutcome, PositiveResponse, Suppressed, pushed, extended}
use Rattle.original.specs.Client.{request-exchange}
use Rattle.original.specs.Shown.{Fail, fail, shown, carried, refusing, Given, messages, called, optional, optional_byte, pairs, report}
use Rattle.original.specs.Shown.{of_request, bytes, number, field, invoke}
use Rattle.original.specs.Demand2.{IsU8, Typed, InRust, config_of}
use Rattle.original.proofs.Laws.{decide, not-leb, strictly-not, also-strictly, bad-length, bounds-not, low-7, SentAs, sent-as, sent-with}
use Rattle.original.proofs.Laws.{open1, open2, two-more, two-more-equal, pair-back, quad-back, bytes-head, bytes-tail, empty-not, equal-either}
use Rattle.original.proofs.Laws.{append-nil, open12, one_more, one_less}
use Rattle.original.proofs.Memory.{fielded, nibbles, asserted, folded, sent-bytes, zero-not, low-nibble, as_long, long-one}
use Rattle.original.proofs.Exchange.{exchanges}
use Rattle.original.proofs.Following.{exchange-known, then-assoc, same_cond, ends, judged, follow}

sent-once : (sid : ℕ) (rest buffer : List ℕ) → messages (length (sid ∷ rest)) ((sid ∷ rest) ++ buffer) ≡ (sid ∷ rest) ∷ []
sent-once sid rest buffer = ap (λ (x : List ℕ). x ∷ []) (take-append_seam (sid ∷ rest) buffer)

module _ (strict : Bool) (timing : Timing) (overall : Option ℕ) (server_timing : Bool) (l : Lent) (es : List Event) (rises : Rising 0 es)
    (of_bytes : Every OfBytes es) where
  abbrev setting : Bool → Setting
  setting quiet = record { timing = timing; overall = overall; limit = none; server_timing = server_timing; quiet = quiet }

  abbrev config : UDSConfig
  config = config_of strict (setting false)

  abbrev before : World
  before = world 0 [] timing

  -- What `rules` answers a call that is not refused.
  abbrev answers : Bool → Call → Run Fail Given
  answers quiet c = called c
      (answered (setting quiet) c l (request_of quiet c) (after strict c (exchange strict (asked (setting quiet) c) overall es)))

  -- A call sends this sub-function and this data, and goes on with what the exchange gives.
  module _ (quiet : Bool) (c : Call) (data' : Option (List ℕ)) where
    abbrev message : Option ℕ → List ℕ
    message sub = sid_of c ∷ pushed sub ++ extended data'

    abbrev Positively : Option ℕ → (RequestOutcome Response → World → Run Error Given) → Type 0
    Positively sub k = (at : ℕ) (r : List ℕ) → head sub ≤ length r → (t : ℕ) → every is_byte r ≡ true
        → shown (k (PositiveResponse (response r (head sub))) (world t (message sub ∷ []) timing))
        ≡ judged strict server_timing c (message sub ∷ []) timing (part at r) t

    abbrev Quietly : Option ℕ → (RequestOutcome Response → World → Run Error Given) → Type 0
    Quietly sub k = (t : ℕ) → suppresses sub ≡ true → shown (k Suppressed (world t (message sub ∷ []) timing))
        ≡ ends strict server_timing c (message sub ∷ []) timing suppressed [] t

    abbrev exchanging : Option ℕ → Run Error (RequestOutcome Response)
    exchanging sub = request-exchange config es (sid_of c) sub data' before

    abbrev Runs : Option ℕ → Type 0
    Runs sub = IsU8 sub → parameters c ≡ extended data' → (k : RequestOutcome Response → World → Run Error Given) → Positively sub k → Quietly sub k
        → shown (and_then (exchanging sub) k) ≡ answers quiet c

    byte-pushed : (s : Option ℕ) → byte s ≡ pushed s
    byte-pushed none = refl
    byte-pushed (some s) = refl

    runs-with : Runs (with_bit7 quiet (sub_of c))
    runs-with u8 form k pos hush =
        let a = asked (setting quiet) c in
        let sub = a.sub in
        let x = exchange strict a overall es in
        let known = exchange-known strict a overall es of_bytes in
        let once : messages (length (request_of quiet c)) (request_of quiet c ++ drop (length (request_of quiet c)) l.buffer) ≡ message sub ∷ [] =
        sent-once (sid_of c) (byte sub ++ parameters c) (drop (length (request_of quiet c)) l.buffer) ∙
        ap₂ (λ (b ps : List ℕ). (sid_of c ∷ b ++ ps) ∷ []) (byte-pushed sub) form in
        follow strict server_timing c (message sub ∷ []) timing sub (suppresses sub) k pos hush (exchanging sub) x
        (exchanges config es a refl data' u8 rises) (exchange-headed strict a overall es) known.0 known.1
        ∙ ap (λ (m : List (List ℕ)). ends strict server_timing c m timing (if_positive x.outcome (λ d. checked strict c x.reply) x.outcome)
        x.reply.bytes x.time) (sym once)

    module _ (sub : Option ℕ) (is : with_bit7 quiet (sub_of c) ≡ sub) (u8 : IsU8 sub) (form : parameters c ≡ extended data') where
      runs : (k : RequestOutcome Response → World → Run Error Given) → Positively sub k → Quietly sub k → shown (and_then (exchanging sub) k)
          ≡ answers quiet c
      runs = subst Runs is runs-with u8 form

      runs2 : {A : Type 0} (k : RequestOutcome Response → World → Run Error A) (m : A → World → Run Error Given)
          → Positively sub (λ x w. and_then (k x w) m) → Quietly sub (λ x w. and_then (k x w) m) → shown (and_then (and_then (exchanging sub) k) m)
          ≡ answers quiet c
      runs2 k m pos hush = ap shown (then-assoc (exchanging sub) k m) ∙ runs (λ x w. and_then (k x w) m) pos hush

      runs3 : {A B : Type 0} (k : RequestOutcome Response → World → Run Error A) (m : A → World → Run Error B) (n : B → World → Run Error Given)
          → Positively sub (λ x w. and_then (and_then (k x w) m) n) → Quietly sub (λ x w. and_then (and_then (k x w) m) n)
          → shown (and_then (and_then (and_then (exchanging sub) k) m) n) ≡ answers quiet c
      runs3 {B = B} k m n pos hush = ap (λ (z : Run Error B). shown (and_then z n)) (then-assoc (exchanging sub) k m) ∙ runs2
          (λ x w. and_then (k x w) m) n pos hush

  -- Strict bounds of total length, and what comes behind them.
  abbrev bound : ℕ → Option ℕ → ℕ → Bool
  bound least upper n = in_strict strict (leb least n && most upper n)

  alike : (d : Option (List ℕ)) → or_none d ≡ extended d
  alike none = refl
  alike (some d) = refl

  never : {A : Type 0} → false ≡ true → A
  never h = absurd (false≢true h)

  request-sent : (quiet : Bool) (sid : ℕ) (sub u : Option ℕ) (d : Option (List ℕ)) → with_bit7 quiet sub ≡ u → IsU8 u → head u ≡ head sub
      → shown (and_then (Client.request config es sid u d before) (λ x. Ok (of_request x))) ≡ answers quiet (request sid sub d)
  request-sent quiet sid sub u d is u8 hd = runs2 quiet (request sid sub d) d u is u8 (alike d) _ _
      (λ at r h t b. rw (le-leb (head u) (length r) h, hd) refl)
      (λ t h. refl)

  request-alike : (quiet : Bool) (sid : ℕ) (sub : Option ℕ) (d : Option (List ℕ)) → IsU8 sub
      → shown (invoke config es quiet (request sid sub d) before) ≡ answers quiet (request sid sub d)
  request-alike true sid none d h = request-sent true sid none none d refl tt refl
  request-alike true sid (some s) d h = let e = sent-with s h in request-sent true sid (some s) (some (bit_or s 0x80)) d e.is e.u8 refl
  request-alike false sid none d h = request-sent false sid none none d refl tt refl
  request-alike false sid (some s) d h = request-sent false sid (some s) (some s) d refl h refl

  -- The record of call 1: adopted and handed out if it has four bytes.
  recorded : (st : Bool) (d : List ℕ) (t : ℕ) (sent : List (List ℕ)) → every is_byte d ≡ true
      → shown (and_then ((Client.session_record config es d >>= (λ x. do_if st (Client.adopt config es x) >> Ok x)) (world t sent timing))
      (λ x. Ok (pairs x)))
      ≡ ok (bytes (take (cond (eqb (length d) 4) 4 0) d)) (world t sent (cond st (adopted (take (cond (eqb (length d) 4) 4 0) d) timing) timing))
  recorded true [] t sent b = refl
  recorded true (x ∷ []) t sent b = refl
  recorded true (x ∷ y ∷ []) t sent b = refl
  recorded true (x ∷ y ∷ z ∷ []) t sent b = refl
  recorded true (x ∷ y ∷ z ∷ u ∷ []) t sent b =
      ap (λ (m : List ℕ). ok (bytes m) (world t sent (record { p2 = x * 256 + y; star = (z * 256 + u) * 10 }))) (quad-back x y z u b)
  recorded true (x ∷ y ∷ z ∷ u ∷ k ∷ d) t sent b = rw (ne_eqb (suc (suc (suc (suc (suc (length d)))))) 4 (λ e. omega arith)) refl
  recorded false [] t sent b = refl
  recorded false (x ∷ []) t sent b = refl
  recorded false (x ∷ y ∷ []) t sent b = refl
  recorded false (x ∷ y ∷ z ∷ []) t sent b = refl
  recorded false (x ∷ y ∷ z ∷ u ∷ []) t sent b = ap (λ (m : List ℕ). ok (bytes m) (world t sent timing)) (quad-back x y z u b)
  recorded false (x ∷ y ∷ z ∷ u ∷ k ∷ d) t sent b = rw (ne_eqb (suc (suc (suc (suc (suc (length d)))))) 4 (λ e. omega arith)) refl

  session-sent : (quiet : Bool) (sub u : ℕ) → SentAs quiet sub u
      → shown (and_then (Client.diagnostic-session-control config es u before) (λ x. Ok (pairs x))) ≡ answers quiet (session sub)
  session-sent quiet sub u s = runs2 quiet (session sub) none (some u) s.is s.u8 refl _ _
      (λ at. open2 _ (λ a b d t bs.
      let n = suc (suc (length d)) in
      let q = bounds-not config es strict 6 (some 6) n in
      decide (bound 6 (some 6) n)
      (λ e. rw (q ∙ ap not e, e, le-leb 2 n (omega arith)) (recorded server_timing d t _ (bytes-tail b d (bytes-tail a (b ∷ d) bs))))
      (λ e. rw (q ∙ ap not e, e, same_cond server_timing timing) (bad-length strict 6 (some 6) (a ∷ b ∷ d) _))))
      (λ t h. rw (same_cond server_timing timing) refl)

  session-alike : (quiet : Bool) (sub : ℕ) → sub < 256 → shown (invoke config es quiet (session sub) before) ≡ answers quiet (session sub)
  session-alike true sub h = session-sent true sub (bit_or sub 0x80) (sent-with sub h)
  session-alike false sub h = session-sent false sub sub (sent-as sub h)

  -- The byte of call 2: handed out if it is alone.
  alone : (d : List ℕ) (v : World)
      → shown (and_then (if_else (eqb (length d) 1) (index d 0 >>= (λ x. Ok (some x))) (Ok none) v) (λ x. Ok (optional_byte x)))
      ≡ ok (bytes (take (cond (eqb (length d) 1) 1 0) d)) v
  alone [] v = refl
  alone (x ∷ []) v = refl
  alone (x ∷ y ∷ d) v = rw (ne_eqb (suc (suc (length d))) 1 (λ e. omega arith)) refl

  reset-sent : (quiet : Bool) (sub u : ℕ) → SentAs quiet sub u → shown (and_then (Client.ecu-reset config es u before) (λ x. Ok (optional_byte x)))
      ≡ answers quiet (reset sub)
  reset-sent quiet sub u s = runs2 quiet (reset sub) none (some u) s.is s.u8 refl _ _
      (λ at. open2 _ (λ a b d t bs.
      let n = suc (suc (length d)) in
      let m : ℕ = reset_length sub in
      let q = bounds-not config es strict m (some m) n in
      rw (low-7 u, s.low)
      (decide (bound m (some m) n)
      (λ e. rw (q ∙ ap not e, e, le-leb 2 n (omega arith)) (alone d _))
      (λ e. rw (q ∙ ap not e, e) (bad-length strict m (some m) (a ∷ b ∷ d) _)))))
      (λ t h. refl)

  reset-alike : (quiet : Bool) (sub : ℕ) → sub < 256 → shown (invoke config es quiet (reset sub) before) ≡ answers quiet (reset sub)
  reset-alike true sub h = reset-sent true sub (bit_or sub 0x80) (sent-with sub h)
  reset-alike false sub h = reset-sent false sub sub (sent-as sub h)

  tester-present-alike : (quiet : Bool) → shown (invoke config es quiet tester_present before) ≡ answers quiet tester_present
  tester-present-alike true = runs2 true tester_present none (some 0x80) refl (omega arith) refl _ _
      (λ at r h t b.
      let q = bounds-not config es strict 2 (some 2) (length r) in
      decide (bound 2 (some 2) (length r)) (λ e. rw (q ∙ ap not e, e) refl) (λ e. rw (q ∙ ap not e, e) (bad-length strict 2 (some 2) r _)))
      (λ t h. refl)
  tester-present-alike false = runs3 false tester_present none (some 0) refl (omega arith) refl _ _ _
      (λ at r h t b.
      let q = bounds-not config es strict 2 (some 2) (length r) in
      decide (bound 2 (some 2) (length r)) (λ e. rw (q ∙ ap not e, e) refl) (λ e. rw (q ∙ ap not e, e) (bad-length strict 2 (some 2) r _)))
      (λ t h. never h)

  even_odd : (n m : ℕ) → n % 2 ≡ m % 2 → eqb (n % 2) 0 ≡ not (eqb (m % 2) 1)
  even_odd n m h = decide (eqb (m % 2) 1)
      (λ e. let k = eqb-true (m % 2) 1 e in rw (e, ne_eqb (n % 2) 0 (λ z. omega arith)) refl)
      (λ e. let k = eqb-false (m % 2) 1 e in let z : m % 2 ≡ 0 = omega arith in rw (e, eq-eqb (n % 2) 0 (h ∙ z)) refl)

  -- Behind the assertion.
  security-sent : (quiet : Bool) (sub u : ℕ) (d : Option (List ℕ)) → SentAs quiet sub u → not (eqb (u % 2) 0 && is_none d) ≡ true
      → shown (and_then (Client.security-access config es u d before) (λ x. Ok (optional x))) ≡ answers quiet (security sub d)
  security-sent quiet sub u d s a = rw a (runs2 quiet (security sub d) d (some u) s.is s.u8 (alike d) _ _
      (λ at. open2 _ (λ a b r t bs.
      let n = suc (suc (length r)) in
      let parity = even_odd u sub s.odd in
      decide (eqb (sub % 2) 1)
      (λ o. rw (parity ∙ ap not o, o)
      (let q = bounds-not config es strict 3 none n in
      decide (bound 3 none n)
      (λ e. rw (q ∙ ap not e, e, le-leb 2 n (omega arith)) refl)
      (λ e. rw (q ∙ ap not e, e) (bad-length strict 3 none (a ∷ b ∷ r) _))))
      (λ o. rw (parity ∙ ap not o, o)
      (let q = bounds-not config es strict 2 (some 2) n in
      decide (bound 2 (some 2) n)
      (λ e. rw (q ∙ ap not e, e) refl)
      (λ e. rw (q ∙ ap not e, e) (bad-length strict 2 (some 2) (a ∷ b ∷ r) _))))))
      (λ t h. refl))

  security-either : (quiet : Bool) (sub u : ℕ) (d : Option (List ℕ)) → SentAs quiet sub u
      → shown (and_then (Client.security-access config es u d before) (λ x. Ok (optional x)))
      ≡ judge (λ n. refusing n before) (key sub d) (answers quiet (security sub d))
  security-either quiet sub u none s =
      let parity = even_odd u sub s.odd in
      decide (eqb (sub % 2) 1)
      (λ e. rw e (security-sent quiet sub u none s (rw (parity ∙ ap not e) refl)))
      (λ e. rw (e, parity ∙ ap not e) refl)
  security-either quiet sub u (some d) s = security-sent quiet sub u (some d) s (never_both (eqb (u % 2) 0))
    where
      never_both : (b : Bool) → not (b && false) ≡ true
      never_both true = refl
      never_both false = refl

  security-alike : (quiet : Bool) (sub : ℕ) (d : Option (List ℕ)) → sub < 256
      → shown (invoke config es quiet (security sub d) before) ≡ judge (λ n. refusing n before) (key sub d) (answers quiet (security sub d))
  security-alike true sub d h = security-either true sub (bit_or sub 0x80) d (sent-with sub h)
  security-alike false sub d h = security-either false sub sub d (sent-as sub h)

  -- The echo of calls 7 and 8, and what follows it.
  identified-alike : {A : Type 0} (id a : ℕ) (d : List ℕ) (w : World) (m : List ℕ → World → Run Error A) (n : A → World → Run Error Given)
      (X : Run Fail Given)
      → (2 ≤ length d → shown (and_then (m d w) n) ≡ X)
      → shown (and_then (and_then (Client.identified config es id (response (a ∷ d) 1) w) m) n)
      ≡ judge (λ f. err (fail (fault f) (carried f (a ∷ d))) w) (at_least strict 3 (a ∷ d) ∷ strictly strict (eqb (u16_at (a ∷ d) 1) id) 5 ∷ []) X
  identified-alike id a d w m n X h =
      let b1 = not-leb (length d) 2 in
      let b2 = strictly-not strict (eqb (get_or d 0 0 * 256 + get_or d 1 0) id) in
      rw (le-leb 1 (suc (length d)) (omega arith), leb-suc-suc 2 (length d))
      (decide (leb 2 (length d))
      (λ e. let k = leb-true 2 (length d) e in
      rw (b1 ∙ ap not e, e, lt-ltb 0 (length d) (omega arith), lt-ltb 1 (length d) (omega arith))
      (decide (in_strict strict (eqb (get_or d 0 0 * 256 + get_or d 1 0) id))
      (λ e. rw (b2 ∙ ap not e, e) (h k))
      (λ e. rw (b2 ∙ ap not e, e) refl)))
      (λ e. rw (b1 ∙ ap not e, e) (bad-length strict 3 none (a ∷ d) _)))

  read-identifier-alike : (quiet : Bool) (id : ℕ) → shown (invoke config es quiet (read_identifier id) before) ≡ answers quiet (read_identifier id)
  read-identifier-alike quiet id = runs3 quiet (read_identifier id) (some (two id)) none refl tt refl _ _ _
      (λ at. open1 _ (λ a d t bs.
      let q = bounds-not config es strict 4 none (suc (length d)) in
      decide (bound 4 none (suc (length d)))
      (λ e. rw (q ∙ ap not e, e) (identified-alike id a d _ _ _ _ (λ k. rw (le-leb 2 (length d) k) refl)))
      (λ e. rw (q ∙ ap not e, e) (bad-length strict 4 none (a ∷ d) _))))
      (λ t h. never h)

  write-identifier-alike : (quiet : Bool) (id : ℕ) (x : List ℕ) → shown (invoke config es quiet (write_identifier id x) before)
      ≡ answers quiet (write_identifier id x)
  write-identifier-alike quiet id x = runs3 quiet (write_identifier id x) (some (two id ++ x)) none refl tt refl _ _ _
      (λ at. open1 _ (λ a d t bs.
      let q = bounds-not config es strict 3 (some 3) (suc (length d)) in
      decide (bound 3 (some 3) (suc (length d)))
      (λ e. rw (q ∙ ap not e, e) (identified-alike id a d _ _ _ _ (λ k. refl)))
      (λ e. rw (q ∙ ap not e, e) (bad-length strict 3 (some 3) (a ∷ d) _))))
      (λ t h. never h)

  transfer-exit-alike : (quiet : Bool) (x : Option (List ℕ)) → shown (invoke config es quiet (transfer_exit x) before) ≡ answers quiet (transfer_exit x)
  transfer-exit-alike quiet x = runs3 quiet (transfer_exit x) x none refl tt (alike x) _ _ _
      (λ at. open1 _ (λ a d t bs. rw (le-leb 1 (suc (length d)) (omega arith)) (go d _)))
      (λ t h. never h)
    where
      go : (d : List ℕ) (v : World) → shown (and_then (if_else (not (is_empty d)) (Ok (some d)) (Ok none) v) (λ x. Ok (optional x))) ≡ ok (bytes d) v
      go [] v = refl
      go (a ∷ d) v = refl

  -- The four bytes of call 9.
  reported : (d : List ℕ) → 4 ≤ length d → every is_byte d ≡ true → get_or d 0 0 ∷ get_or d 1 0 ∷ two (get_or d 2 0 * 256 + get_or d 3 0) ≡ take 4 d
  reported [] h b = absurd (omega arith)
  reported (x ∷ []) h b = absurd (omega arith)
  reported (x ∷ y ∷ []) h b = absurd (omega arith)
  reported (x ∷ y ∷ z ∷ []) h b = absurd (omega arith)
  reported (x ∷ y ∷ z ∷ u ∷ d) h b =
      ap (λ (m : List ℕ). x ∷ y ∷ m)
      (pair-back z u (bytes-head u d (bytes-tail z (u ∷ d) (bytes-tail y (z ∷ u ∷ d) (bytes-tail x (y ∷ z ∷ u ∷ d) b)))))

  parsed : (mask : ℕ) (sent : List (List ℕ)) (at : ℕ) (r : List ℕ) → 2 ≤ length r → (t : ℕ) → every is_byte r ≡ true
      → shown (and_then (Client.parse-dtc-report-number-by-status-mask config es (response r 2) (world t sent timing)) (λ x. Ok (report x)))
      ≡ judged strict server_timing (fault_count mask) sent timing (part at r) t
  parsed mask sent at = open2 _ (λ a b d t bs.
      let n = length d in
      let b1 = also-strictly (ltb n 4) (leb 4 n) strict (eqb n 4) (not-leb n 4) in
      rw (le-leb 2 (suc (suc n)) (omega arith), two-more 4 n, two-more-equal 4 n)
      (decide (leb 4 n && in_strict strict (eqb n 4))
      (λ e.
      let k = leb-true 4 n (both (leb 4 n) (in_strict strict (eqb n 4)) e).0 in
      rw (b1 ∙ ap not e, e, lt-ltb 0 n (omega arith), lt-ltb 1 n (omega arith), lt-ltb 2 n (omega arith), lt-ltb 3 n (omega arith))
      (ap (λ (m : List ℕ). ok (bytes m) (world t sent timing)) (reported d k (bytes-tail b d (bytes-tail a (b ∷ d) bs)))))
      (λ e. rw (b1 ∙ ap not e, e) (bad-length strict 6 (some 6) (a ∷ b ∷ d) _))))

  fault-count-alike : (quiet : Bool) (mask : ℕ) → shown (invoke config es quiet (fault_count mask) before) ≡ answers quiet (fault_count mask)
  fault-count-alike true mask = runs2 true (fault_count mask) (some (mask ∷ [])) (some 0x81) refl (omega arith) refl _ _
      (λ at r h t b. ap shown (then-assoc (Client.parse-dtc-report-number-by-status-mask config es (response r 2) (world t _ timing)) _ _)
      ∙ parsed mask _ at r h t b)
      (λ t h. refl)
  fault-count-alike false mask = runs3 false (fault_count mask) (some (mask ∷ [])) (some 1) refl (omega arith) refl _ _ _
      (λ at r h t b. parsed mask _ at r h t b)
      (λ t h. never h)

  -- Data that is absent where it is empty.
  rest : (k : ℕ) (d : List ℕ) (v : World) → k ≤ length d
      → shown (and_then (if_else (ltb k (length d)) (slice_from d k >>= (λ x. Ok (some x))) (Ok none) v) (λ x. Ok (optional x)))
      ≡ ok (bytes (drop k d)) v
  rest k d v h = decide (ltb k (length d))
      (λ e. rw (e, le-leb k (length d) h) refl)
      (λ e. let n = ltb-false k (length d) e in rw e (ap (λ (m : List ℕ). ok (bytes m) v) (sym (drop_of_length-le d n))))

  routine-sent : (quiet : Bool) (sub u id : ℕ) (x : Option (List ℕ)) → SentAs quiet sub u
      → shown (and_then (Client.routine-control config es u id x before) (λ x. Ok (optional x))) ≡ answers quiet (routine sub id x)
  routine-sent quiet sub u id x s = runs2 quiet (routine sub id x) (some (two id ++ extended x)) (some u) s.is s.u8
      (ap (λ (m : List ℕ). two id ++ m) (alike x)) _ _
      (λ at. open2 _ (λ a b d t bs.
      let n = length d in
      let b1 = not-leb n 2 in
      let b2 = strictly-not strict (eqb (get_or d 0 0 * 256 + get_or d 1 0) id) in
      rw (le-leb 2 (suc (suc n)) (omega arith), two-more 2 n)
      (decide (leb 2 n)
      (λ e. let k = leb-true 2 n e in
      rw (b1 ∙ ap not e, e, lt-ltb 0 n (omega arith), lt-ltb 1 n (omega arith))
      (decide (in_strict strict (eqb (get_or d 0 0 * 256 + get_or d 1 0) id))
      (λ e. rw (b2 ∙ ap not e, e) (rest 2 d _ k))
      (λ e. rw (b2 ∙ ap not e, e) refl)))
      (λ e. rw (b1 ∙ ap not e, e) (bad-length strict 4 none (a ∷ b ∷ d) _)))))
      (λ t h. refl)

  routine-alike : (quiet : Bool) (sub id : ℕ) (x : Option (List ℕ)) → sub < 256 → shown (invoke config es quiet (routine sub id x) before)
      ≡ answers quiet (routine sub id x)
  routine-alike true sub id x h = routine-sent true sub (bit_or sub 0x80) id x (sent-with sub h)
  routine-alike false sub id x h = routine-sent false sub sub id x (sent-as sub h)

  least-alike : (x : Option (List ℕ)) → cond {A = ℕ} (is_none x) 3 2 ≡ transfer_length x
  least-alike none = refl
  least-alike (some d) = refl

  transfer-alike : (quiet : Bool) (counter : ℕ) (x : Option (List ℕ)) → shown (invoke config es quiet (transfer counter x) before)
      ≡ answers quiet (transfer counter x)
  transfer-alike quiet counter x = runs3 quiet (transfer counter x) (some (counter ∷ extended x)) none refl tt
      (ap (λ (m : List ℕ). counter ∷ m) (alike x)) _ _ _
      (λ at. open1 _ (λ a d t bs.
      let m : ℕ = transfer_length x in
      let q = bounds-not config es strict m none (suc (length d)) in
      let b1 = empty-not d in
      let b2 = strictly-not strict (eqb (get_or d 0 0) counter) in
      rw (least-alike x)
      (decide (bound m none (suc (length d)))
      (λ e. rw (q ∙ ap not e, e, le-leb 1 (suc (length d)) (omega arith), leb-suc-suc 1 (length d))
      (decide (leb 1 (length d))
      (λ e. let k = leb-true 1 (length d) e in
      rw (b1 ∙ ap not e, e)
      (decide (in_strict strict (eqb (get_or d 0 0) counter))
      (λ e. rw (b2 ∙ ap not e, e) (rest 1 d _ k))
      (λ e. rw (b2 ∙ ap not e, e) refl)))
      (λ e. rw (b1 ∙ ap not e, e) (bad-length strict 2 none (a ∷ d) _))))
      (λ e. rw (q ∙ ap not e, e) (bad-length strict m none (a ∷ d) _)))))
      (λ t h. never h)

  -- The two lengths that are asserted, and f.
  module _ (a s : List ℕ) (la : between 1 15 (length a) ≡ true) (ls : between 1 15 (length s) ≡ true) where
    f-alike : bit_or (shl (length s) 4) (length a) ≡ length s * 16 + length a
    f-alike = nibbles (length s) (length a) (leb-true (length a) 15 (both (leb 1 (length a)) (leb (length a) 15) la).1)

  read-memory-sent : (quiet : Bool) (a s : Field) → Typed s → between 1 15 (length (sent a)) ≡ true → between 1 15 (length (sent s)) ≡ true
      → shown (and_then (Client.read-write-memory-by-adddress config es 0x23 (sent a) (sent s) none before) (λ d. Ok (bytes d)))
      ≡ answers quiet (read_memory a s)
  read-memory-sent quiet a s ts la ls =
      rw (asserted (sent a) ∙ la, asserted (sent s) ∙ ls, f-alike (sent a) (sent s) la ls, folded (sent s) (sent-bytes s ts))
      (runs3 quiet (read_memory a s) (some (memory a s ++ [])) none refl tt (sym (append-nil (memory a s))) _ _ _
      (λ at. open1 _ (λ x d t bs.
      let b1 = empty-not d in
      decide strict
      (λ st. rw (st, le-leb 1 (suc (length d)) (omega arith), equal-either (value (sent s)) (length d), leb-suc-suc 1 (length d))
      (decide (eqb (length d) (value (sent s)))
      (λ e. rw e (decide (leb 1 (length d))
      (λ e. rw (b1 ∙ ap not e, e, le-leb 1 (suc (length d)) (omega arith)) refl)
      (λ e. rw (b1 ∙ ap not e, e) refl)))
      (λ e. rw e refl)))
      (λ st. rw (st, le-leb 1 (suc (length d)) (omega arith)) refl)))
      (λ t h. never h))

  write-memory-sent : (quiet : Bool) (a s : Field) (x : List ℕ) → between 1 15 (length (sent a)) ≡ true → between 1 15 (length (sent s)) ≡ true
      → shown (and_then (Client.read-write-memory-by-adddress config es 0x3d (sent a) (sent s) (some x) before) (λ d. Ok (bytes d)))
      ≡ answers quiet (write_memory a s x)
  write-memory-sent quiet a s x la ls =
      let m = 2 + length (sent a) + length (sent s) in
      let j = length (sent a) in
      rw (asserted (sent a) ∙ la, asserted (sent s) ∙ ls, f-alike (sent a) (sent s) la ls)
      (runs3 quiet (write_memory a s x) (some (memory a s ++ x)) none refl tt refl _ _ _
      (λ at. open12 _
      (λ y t bs.
      let q = bounds-not config es true m (some m) 1 in
      decide strict
      (λ st. rw st (decide (leb m 1 && most (some m) 1)
      (λ e. let k = leb-true m 1 (both (leb m 1) (most (some m) 1) e).0 in absurd (omega arith))
      (λ e. rw (q ∙ ap not e, e) refl)))
      (λ st. rw st refl))
      (λ y z d t bs.
      let n = suc (length d) in
      let q = bounds-not config es true m (some m) (suc n) in
      decide strict
      (λ st. rw st (decide (leb m (suc n) && most (some m) (suc n))
      (λ e. let k = leb-true m (suc n) (both (leb m (suc n)) (most (some m) (suc n)) e).0 in
      rw (q ∙ ap not e, e, le-leb 1 (suc n) (omega arith), lt-ltb 0 n (omega arith))
      (decide (eqb z (format a s))
      (λ e. rw (e, one_more j, le-leb 1 (suc j) (omega arith), le-leb (suc j) n (omega arith), one_less j)
      (decide (same (take j d) (sent a))
      (λ e. rw (e, le-leb (suc j) n (omega arith))
      (decide (same (drop j d) (sent s)) (λ e. rw e refl) (λ e. rw e refl)))
      (λ e. rw e refl)))
      (λ e. rw e refl)))
      (λ e. rw (q ∙ ap not e, e) refl)))
      (λ st. rw (st, le-leb 1 (suc n) (omega arith)) refl)))
      (λ t h. never h))

  -- The checks of calls 11 and 12, and their number.
  abbrev Loaded : List ℕ → Type 0
  Loaded r = (w : World) → every is_byte r ≡ true → shown (and_then (Client.block_length config es (response r 1) w) (λ n. Ok (number n)))
      ≡ judge (λ f. err (fail (fault f) (carried f r)) w) (loading strict r (length_bytes r) (value (block_length r)))
      (ok (number (value (block_length r))) w)

  loaded : (r : List ℕ) → 1 ≤ length r → Loaded r
  loaded = open12 Loaded
      (λ y w bs. bad-length strict 2 none (y ∷ []) w)
      (λ y z d w bs.
      let n = z / 16 in
      let m = length d in
      let v = value (take n d) in
      let b10 = strictly-not strict (eqb (z % 16) 0) in
      let b9 = strictly-not strict (ltb 0 n) in
      let b8 = as_long strict n m in
      let b11 = strictly-not strict (leb 3 v) in
      rw (le-leb 1 (suc (suc m)) (omega arith), le-leb 2 (suc (suc m)) (omega arith), lt-ltb 0 (suc m) (omega arith), low-nibble z, zero-not n)
      (decide (in_strict strict (eqb (z % 16) 0))
      (λ e. rw (b10 ∙ ap not e, e)
      (decide (in_strict strict (ltb 0 n))
      (λ e. rw (b9 ∙ ap not e, e)
      (decide (leb (n + 2) (suc (suc m)) && in_strict strict (leb (suc (suc m)) (n + 2)))
      (λ e. let k = leb-true (n + 2) (suc (suc m)) (both (leb (n + 2) (suc (suc m))) _ e).0 in
      rw (
        b8 ∙ ap not e,
        e,
        le-leb 1 (n + 1) (omega arith),
        le-leb (n + 1) (suc m) (omega arith),
        long-one n,
        folded (take n d) (every_take is_byte n d (bytes-tail z d (bytes-tail y (z ∷ d) bs))),
        not-leb v 3,
      )
      (decide (in_strict strict (leb 3 v))
      (λ e. rw (b11 ∙ ap not e, e) (decide (ltb v (2 ^ 64)) (λ e. rw e refl) (λ e. rw e refl)))
      (λ e. rw (b11 ∙ ap not e, e) refl)))
      (λ e. rw (b8 ∙ ap not e, e) (bad-length strict (n + 2) (some (n + 2)) (y ∷ z ∷ d) w))))
      (λ e. rw (b9 ∙ ap not e, e) refl)))
      (λ e. rw (b10 ∙ ap not e, e) refl)))

  -- With the arguments' refusals before.
  abbrev refuses : ℕ → Run Fail Given
  refuses n = refusing n before

  -- Both fields, then what is asked of the rest.
  fields : (a s : Field) → Typed a → Typed s → (cs : List (Check ℕ)) (k : List ℕ → List ℕ → World → Run Error Given) (X : Run Fail Given)
      → shown (k (sent a) (sent s) before) ≡ judge refuses cs X
      → shown (and_then (field a before) (λ address w. and_then (field s w) (λ size. k address size))) ≡ judge refuses (width a ++ width s ++ cs) X
  fields a s ta ts cs k X h =
      fielded before a ta (λ address w. and_then (field s w) (λ size. k address size)) _ (fielded before s ts (k (sent a)) _ h)
      ∙ sym (judge-append refuses (width a ++ width s) cs X ∙ judge-append refuses (width a) (width s) (judge refuses cs X))

  -- Calls 5 and 6 before sending: widths, lengths. `sends` is the rest.
  memory-alike : (sid : ℕ) (x : Option (List ℕ)) (a s : Field) (X : Run Fail Given) → Typed a → Typed s → (eqb sid 0x23 || eqb sid 0x3d) ≡ true
      → (between 1 15 (length (sent a)) ≡ true → between 1 15 (length (sent s)) ≡ true
      → shown (and_then (Client.read-write-memory-by-adddress config es sid (sent a) (sent s) x before) (λ d. Ok (bytes d))) ≡ X)
      → shown (and_then (field a before) (λ address w. and_then (field s w) (λ size w.
      and_then (Client.read-write-memory-by-adddress config es sid address size x w) (λ d. Ok (bytes d)))))
      ≡ judge refuses (width a ++ width s ++ lengths a s) X
  memory-alike sid x a s X ta ts known sends = fields a s ta ts (lengths a s) _ _
      (decide (between 1 15 (length (sent a)))
      (λ e. decide (between 1 15 (length (sent s)))
      (λ f. rw (e, f) (sends e f))
      (λ f. rw (e, f, known, asserted (sent a) ∙ e, asserted (sent s) ∙ f) refl))
      (λ e. rw (e, known, asserted (sent a) ∙ e) refl))

  -- Calls 11 and 12 before sending: widths, methods, lengths. `sends` is the rest.
  load-alike : (sid c e : ℕ) (a s : Field) (X : Run Fail Given) → Typed a → Typed s → (eqb sid 0x34 || eqb sid 0x35) ≡ true
      → shown (and_then (and_then (Client.request-response config es sid none (some ((c * 16 + e) ∷ memory a s)) before) (Client.block_length config es))
      (λ n. Ok (number n))) ≡ X
      → shown (and_then (field a before) (λ address w. and_then (field s w) (λ size w.
      and_then (Client.request-download-or-upload config es sid c e address size w) (λ n. Ok (number n)))))
      ≡ judge refuses ((width a ++ width s ++ methods c e) ++ lengths a s) X
  load-alike sid c e a s X ta ts known sends =
      fields a s ta ts (methods c e) _ (judge refuses (lengths a s) X)
      (decide (leb c 15)
      (λ hc. decide (leb e 15)
      (λ he. decide (between 1 15 (length (sent a)))
      (λ la. decide (between 1 15 (length (sent s)))
      (λ ls. let f = f-alike (sent a) (sent s) la ls in
      rw (hc, he, la, ls, known, asserted (sent a) ∙ la, asserted (sent s) ∙ ls, f, nibbles c e (leb-true e 15 he)) sends)
      (λ ls. rw (hc, he, la, ls, known, asserted (sent a) ∙ la, asserted (sent s) ∙ ls) refl))
      (λ la. rw (hc, he, la, known, asserted (sent a) ∙ la) refl))
      (λ he. rw (hc, he) refl))
      (λ hc. rw hc refl))
      ∙ sym (judge-append refuses (width a ++ width s ++ methods c e) (lengths a s) X)

  -- Every call.
  pub invoked : (quiet : Bool) (c : Call) → InRust c → shown (invoke config es quiet c before) ≡ judge refuses (arguments c) (answers quiet c)
  invoked quiet (request sid sub d) h = request-alike quiet sid sub d h
  invoked quiet (session sub) h = session-alike quiet sub h
  invoked quiet (reset sub) h = reset-alike quiet sub h
  invoked quiet (security sub d) h = security-alike quiet sub d h
  invoked quiet tester_present h = tester-present-alike quiet
  invoked quiet (read_memory a s) h = memory-alike 0x23 none a s _ h.0 h.1 refl (read-memory-sent quiet a s h.1)
  invoked quiet (write_memory a s x) h = memory-alike 0x3d (some x) a s _ h.0 h.1 refl (write-memory-sent quiet a s x)
  invoked quiet (read_identifier id) h = read-identifier-alike quiet id
  invoked quiet (write_identifier id x) h = write-identifier-alike quiet id x
  invoked quiet (fault_count mask) h = fault-count-alike quiet mask
  invoked quiet (routine sub id x) h = routine-alike quiet sub id x h
  invoked quiet (download c e a s) h = load-alike 0x34 c e a s _ h.0 h.1 refl
      (runs3 quiet (download c e a s) (some ((c * 16 + e) ∷ memory a s)) none refl tt refl _ _ _ (λ at r h t bs. loaded r h _ bs) (λ t h. never h))
  invoked quiet (upload c e a s) h = load-alike 0x35 c e a s _ h.0 h.1 refl
      (runs3 quiet (upload c e a s) (some ((c * 16 + e) ∷ memory a s)) none refl tt refl _ _ _ (λ at r h t bs. loaded r h _ bs) (λ t h. never h))
  invoked quiet (transfer counter x) h = transfer-alike quiet counter x
  invoked quiet (transfer_exit x) h = transfer-exit-alike quiet x
  invoked quiet (fault_list mask) h = absurd h
