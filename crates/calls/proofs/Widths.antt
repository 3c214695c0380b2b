-- The `alfid` form: refusals 6 and 7 of the address, then of the size; behind them the call is that of the fields as bytes.
use Prim.Native.Nat.{ℕ, ◌-◌}
use native.Mathlib.Omega.{arith}
use mathlib.Core.Bool.{Bool, true, false, cond, false≢true, true≢false}
use mathlib.Core.Path.{◌≡◌, refl, sym, ◌∙◌, ap, ap₂}
use mathlib.Core.List.{List, ◌++◌}
use lib.Dec.{eqb}
use lib.ListN.{take, drop, replicate}
use lib.Seq.{take_at}
use Rattle.rules.specs.After.{checked}
use Rattle.rules.specs.Bytes.{bytes_of}
use Rattle.rules.specs.Calls as rules
use Rattle.rules.specs.Calls.{Field, given, alfid, sent}
use Rattle.rules.specs.InOrder.{judge}
use Rattle.rules.specs.Client.{Result, refuse, call}
use Rattle.rules.specs.Refusals.{width}
use Rattle.rules.specs.Settings.{Setting, Lent}
use Rattle.std.specs.Prelude as returned
use Rattle.std.specs.Prelude.{Ok, Err}
use Rattle.wire.specs.Memory.{memory_bytes}
use Rattle.wire.specs.Refusing.{refusal_number}
use Rattle.wire.specs.declared.refusal.Refusal.{Refusal}
use Rattle.wire.specs.declared.MemoryBytes.{MemoryBytes}
use Rattle.requests.specs.Meaning.{call_from}
use Rattle.requests.specs.Prepared.{first}
use Rattle.requests.specs.Rows.{row_of, takes_memory}
use Rattle.requests.specs.declared.Call.{Call}
use Rattle.requests.specs.declared.Call.TheVariants as call-of
use Rattle.rules.proofs.Judging.{judge-append}
use Rattle.rules.proofs.Wide.{bytes-length}
use Rattle.requests.proofs.Judging.{by_number}
use Rattle.requests.proofs.Refusals.{non-zero-width}
use Rattle.calls.specs.Meaning.{setting_of, refused_of, no_bytes, Called}
use Rattle.exchange.specs.declared.types.Timing.{Timing}
use Rattle.calls.specs.declared.Ask.{Ask}
use Rattle.calls.specs.declared.Answered.{Answered}

-- A call that takes neither address nor size is the same with any.
pub no_fields : (k : Call) (a s a' s' : Field) (d : List ℕ) → takes_memory (row_of k).takes ≡ false → call_from k a s d ≡ call_from k a' s' d
no_fields (call-of.Request sid sub x) a s a' s' d h = refl
no_fields (call-of.DiagnosticSessionControl sub) a s a' s' d h = refl
no_fields (call-of.EcuReset sub) a s a' s' d h = refl
no_fields (call-of.SecurityAccess sub x) a s a' s' d h = refl
no_fields call-of.TesterPresent a s a' s' d h = refl
no_fields call-of.ReadMemoryByAddress a s a' s' d h = absurd (true≢false h)
no_fields call-of.WriteMemoryByAddress a s a' s' d h = absurd (true≢false h)
no_fields (call-of.ReadDataByIdentifier id) a s a' s' d h = refl
no_fields (call-of.WriteDataByIdentifier id) a s a' s' d h = refl
no_fields (call-of.ReadDTCInformation mask) a s a' s' d h = refl
no_fields (call-of.RoutineControl sub id x) a s a' s' d h = refl
no_fields (call-of.RequestDownload c e) a s a' s' d h = absurd (true≢false h)
no_fields (call-of.RequestUpload c e) a s a' s' d h = absurd (true≢false h)
no_fields (call-of.TransferData counter x) a s a' s' d h = refl
no_fields (call-of.RequestTransferExit x) a s a' s' d h = refl
no_fields (call-of.ReadDTCInformationDTC mask) a s a' s' d h = refl

-- Of a call that takes them, the widths are judged first.
module _ (strict : Bool) (w : Setting) (l : Lent) (a s : Field) (d : List ℕ) where
  abbrev Widths : Call → Type 0
  Widths k =
      call strict w (call_from k a s d) l ≡
      judge (refuse w l) (width a) (judge (refuse w l) (width s) (call strict w (call_from k (given (sent a)) (given (sent s)) d) l))

  widths : (k : Call) → takes_memory (row_of k).takes ≡ true → Widths k
  unfolding call checked
  widths (call-of.Request sid sub x) h = absurd (false≢true h)
  widths (call-of.DiagnosticSessionControl sub) h = absurd (false≢true h)
  widths (call-of.EcuReset sub) h = absurd (false≢true h)
  widths (call-of.SecurityAccess sub x) h = absurd (false≢true h)
  widths call-of.TesterPresent h = absurd (false≢true h)
  widths call-of.ReadMemoryByAddress h = simp judge-append
  widths call-of.WriteMemoryByAddress h = simp judge-append
  widths (call-of.ReadDataByIdentifier id) h = absurd (false≢true h)
  widths (call-of.WriteDataByIdentifier id) h = absurd (false≢true h)
  widths (call-of.ReadDTCInformation mask) h = absurd (false≢true h)
  widths (call-of.RoutineControl sub id x) h = absurd (false≢true h)
  widths (call-of.RequestDownload c e) h = simp judge-append
  widths (call-of.RequestUpload c e) h = simp judge-append
  widths (call-of.TransferData counter x) h = absurd (false≢true h)
  widths (call-of.RequestTransferExit x) h = absurd (false≢true h)
  widths (call-of.ReadDTCInformationDTC mask) h = absurd (false≢true h)

-- What `memory_bytes` answers: the first refusal of the field, or its bytes.
module _ (v w : ℕ) (wide : Bool) where
  abbrev first-of : ℕ
  first-of = first (width (alfid v w wide))

  abbrev whole : MemoryBytes
  whole = record { len = w; bytes = bytes_of w v ++ replicate (15 - w) 0 }

  told : memory_bytes v w wide ≡ cond (eqb first-of 0) (Ok whole) (Err first-of)
  unfolding memory_bytes
  told = by_number Err (width (alfid v w wide)) _ (non-zero-width (alfid v w wide))

  refusal-of : {n : ℕ} → Err n ≡ memory_bytes v w wide → (eqb first-of 0 ≡ false) × (first-of ≡ n)
  refusal-of {n} is = go (eqb first-of 0) refl (is ∙ told)
    where
      go : (b : Bool) → eqb first-of 0 ≡ b → Err n ≡ cond b (Ok whole) (Err first-of)
          → (eqb first-of 0 ≡ false) × (first-of ≡ n)
      go true t e = absurd (let z : ◌≡◌ {A = ℕ} 0 1 = cc in omega arith)
      go false t e = (t, cc)

  bytes-of : {x : MemoryBytes} → Ok x ≡ memory_bytes v w wide → (eqb first-of 0 ≡ true) × (take x.len (drop 0 x.bytes) ≡ bytes_of w v)
  bytes-of {x} is = go (eqb first-of 0) refl (is ∙ told)
    where
      go : (b : Bool) → eqb first-of 0 ≡ b → Ok x ≡ cond b (Ok whole) (Err first-of)
          → (eqb first-of 0 ≡ true) × (take x.len (drop 0 x.bytes) ≡ bytes_of w v)
      go true t e =
          let same : x ≡ whole = cc in
          (t, ap (λ (y : MemoryBytes). take y.len y.bytes) same ∙ take_at (bytes_of w v) (replicate (15 - w) 0) w (bytes-length w v))
      go false t e = absurd (let z : ◌≡◌ {A = ℕ} 0 1 = cc in omega arith)

-- What the `alfid` form is given: the session, what is asked, address and size as numbers with their widths, the wide setting, data, and what is lent.
pub record Given : Type 0 where
  pub session : Timing
  pub ask : Ask
  pub v : ℕ
  pub u : ℕ
  pub w : ℕ
  pub w' : ℕ
  pub wide : Bool
  pub d : List ℕ
  pub lent : Lent

-- The same of what a call of `run_alfid` lends.
abbrev pub given-of : Timing → Ask → ℕ → ℕ → ℕ → ℕ → Bool → List ℕ → Lent → Given
given-of session ask v u w w' wide d lent = record { session = session; ask = ask; v = v; u = u; w = w; w' = w'; wide = wide; d = d; lent = lent }

abbrev address : Given → Field
address g = alfid g.v g.w g.wide

abbrev size : Given → Field
size g = alfid g.u g.w' g.wide

module _ (g : Given) where
  abbrev setting : Setting
  setting = setting_of g.ask g.session

  abbrev with' : Field → Field → rules.Call
  with' a s = call_from g.ask.call a s g.d

  abbrev asked : rules.Call
  asked = with' (address g) (size g)

  abbrev done : rules.Call → Result
  done c = call g.ask.strict setting c g.lent

  abbrev Means : rules.Call → Answered → List ℕ → Type 0
  Means c r b = Called g.ask.strict setting c g.lent r b

  -- It is refused with this number.
  abbrev Turned : ℕ → Type 0
  Turned n = Means asked (refused_of g.session n) g.lent.buffer

  turned : {n : ℕ} → done asked ≡ refuse setting g.lent n → Turned n
  turned e = record { means = sym e; outcome = tt; reply = omega arith }

  moved : {c : rules.Call} {r : Answered} {b : List ℕ} → done c ≡ done asked → Means c r b → Means asked r b
  moved e k = record { means = k.means ∙ e; outcome = k.outcome; reply = k.reply }

  without : (x y : Field) {r : Answered} {b : List ℕ} → takes_memory (row_of g.ask.call).takes ≡ false → Means (with' x y) r b → Means asked r b
  without x y e = moved (ap done (no_fields g.ask.call x y (address g) (size g) g.d e))

  module _ (takes : takes_memory (row_of g.ask.call).takes ≡ true) where
    by-numbers : done asked ≡
        cond (eqb (first (width (address g))) 0)
        (cond (eqb (first (width (size g))) 0) (done (with' (given (bytes_of g.w g.v)) (given (bytes_of g.w' g.u)))) (refuse setting g.lent (first (width (size g)))))
        (refuse setting g.lent (first (width (address g))))
    by-numbers =
        widths g.ask.strict setting g.lent (address g) (size g) g.d g.ask.call takes ∙
        by_number (refuse setting g.lent) (width (address g)) _ (non-zero-width (address g)) ∙
        rw (by_number (refuse setting g.lent) (width (size g)) (done (with' (given (bytes_of g.w g.v)) (given (bytes_of g.w' g.u)))) (non-zero-width (size g)))

    address-refused : (r : Refusal) → Err (refusal_number r) ≡ memory_bytes g.v g.w g.wide → Turned (refusal_number r)
    address-refused r is =
        let z = refusal-of _ _ _ is in
        turned (by-numbers ∙ rw (z.0, z.1))

    module _ {a : MemoryBytes} (as-address : Ok a ≡ memory_bytes g.v g.w g.wide) where
      size-refused : (r : Refusal) → Err (refusal_number r) ≡ memory_bytes g.u g.w' g.wide → Turned (refusal_number r)
      size-refused r is =
          let z = refusal-of _ _ _ is in
          turned (by-numbers ∙ rw ((bytes-of _ _ _ as-address).0, z.0, z.1))

      as_bytes : {s : MemoryBytes} → Ok s ≡ memory_bytes g.u g.w' g.wide → {address' size' b : List ℕ} {r : Answered}
          → address' ≡ take a.len (drop 0 a.bytes) → size' ≡ take s.len (drop 0 s.bytes)
          → Means (with' (given address') (given size')) r b → Means asked r b
      as_bytes as-size x y =
          let in_bytes : done asked ≡ done (with' (given (bytes_of g.w g.v)) (given (bytes_of g.w' g.u))) =
          by-numbers ∙ rw ((bytes-of _ _ _ as-address).0, (bytes-of _ _ _ as-size).0)
          in
          moved (ap₂ (λ (p q : List ℕ). done (with' (given p) (given q))) (x ∙ (bytes-of _ _ _ as-address).1) (y ∙ (bytes-of _ _ _ as-size).1) ∙ sym in_bytes)

  -- The same by what the code asks: no width refuses a call that takes neither, and what stands for address and size is not looked at.
  module _ {m : Bool} (takes : m ≡ takes_memory (row_of g.ask.call).takes) where
    abbrev Field-bytes : returned.Result MemoryBytes ℕ → ℕ → ℕ → Type 0
    Field-bytes x v w = x ≡ cond m (memory_bytes v w g.wide) (Ok no_bytes)

    pub turned-by-address : (r : Refusal) → Field-bytes (Err (refusal_number r)) g.v g.w → Turned (refusal_number r)
    turned-by-address r = go m takes
      where
        go : (y : Bool) → y ≡ takes_memory (row_of g.ask.call).takes → Err (refusal_number r) ≡ cond y (memory_bytes g.v g.w g.wide) (Ok no_bytes)
            → Turned (refusal_number r)
        go true e k = address-refused (sym e) r k
        go false e k = absurd (let z : ◌≡◌ {A = ℕ} 0 1 = cc in omega arith)

    module _ {a : MemoryBytes} (as-address : Field-bytes (Ok a) g.v g.w) where
      pub turned-by-size : (r : Refusal) → Field-bytes (Err (refusal_number r)) g.u g.w' → Turned (refusal_number r)
      turned-by-size r = go m takes as-address
        where
          go : (y : Bool) → y ≡ takes_memory (row_of g.ask.call).takes → Ok a ≡ cond y (memory_bytes g.v g.w g.wide) (Ok no_bytes)
              → Err (refusal_number r) ≡ cond y (memory_bytes g.u g.w' g.wide) (Ok no_bytes) → Turned (refusal_number r)
          go true e j k = size-refused (sym e) j r k
          go false e j k = absurd (let z : ◌≡◌ {A = ℕ} 0 1 = cc in omega arith)

    -- What `run` does with these bytes; where the call takes neither, with whatever stands for them.
    pub handed-on : {a s : MemoryBytes} → (m ≡ true → Ok a ≡ memory_bytes g.v g.w g.wide) → (m ≡ true → Ok s ≡ memory_bytes g.u g.w' g.wide)
        → {address' size' b : List ℕ} {r : Answered} → address' ≡ take a.len (drop 0 a.bytes) → size' ≡ take s.len (drop 0 s.bytes)
        → Means (with' (given address') (given size')) r b → Means asked r b
    handed-on {a} {s} as-address as-size {address'} {size'} {b} {r} x z k = go m takes as-address as-size
      where
        go : (y : Bool) → y ≡ takes_memory (row_of g.ask.call).takes → (y ≡ true → Ok a ≡ memory_bytes g.v g.w g.wide)
            → (y ≡ true → Ok s ≡ memory_bytes g.u g.w' g.wide) → Means asked r b
        go true e i j = as_bytes (sym e) (i refl) (j refl) x z k
        go false e i j = without (given address') (given size') (sym e) k

    -- A field that is laid out, where the call takes it.
    pub laid-out : {x : returned.Result MemoryBytes ℕ} (v w : ℕ) → Field-bytes x v w → m ≡ true → x ≡ memory_bytes v w g.wide
    laid-out v w k e = k ∙ ap (λ (y : Bool). cond y (memory_bytes v w g.wide) (Ok no_bytes)) e
