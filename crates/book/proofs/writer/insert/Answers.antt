-- `insert` meets its contract: each step leaves in the buffer what `Inserting` says.
use native.Mathlib.Omega.{arith}
use Rattle.book.proofs.Inserting.{as-read, moved-on, after-log, after-move, after-entry, after-offsets, after-header}
use Rattle.book.specs.Moved.{moved}
use Rattle.bookkeeping.specs.Layout.{entry, header}
use Rattle.wire.specs.Buffers.{with}
use Rattle.rules.specs.Logs.{area}
use Rattle.rules.specs.Bytes.{two, four}
use lib.ListN.{length, drop}
use lib.ListN.{take}
use mathlib.Core.Path.{◌≡◌, ◌∙◌, ap, ap₂}
use mathlib.Core.List.{List, ◌∷◌, ◌++◌}
use Prim.Native.Nat.{ℕ, ◌+◌, ◌≤◌}
use Rattle.book.proofs.writer.insert.Goals as goal

pub overflow_sub-logs : goal.overflow_sub-logs
overflow_sub-logs c =
    omega (arith, as-read c.args.book.now c.args.n c.requires.0 (omega arith) _ _ c.log_count-count.ensures.0 c.start-logs_at.ensures)

pub copy_within-requires-clause-start_le_end : goal.copy_within-requires-clause-start_le_end
copy_within-requires-clause-start_le_end c =
    omega (arith, as-read c.args.book.now c.args.n c.requires.0 (omega arith) _ _ c.log_count-count.ensures.0 c.start-logs_at.ensures)

pub copy_within-requires-clause-dest_in_bounds : goal.copy_within-requires-clause-dest_in_bounds
copy_within-requires-clause-dest_in_bounds c =
    omega (arith, as-read c.args.book.now c.args.n c.requires.0 (omega arith) _ _ c.log_count-count.ensures.0 c.start-logs_at.ensures)

pub put_offsets-requires : goal.put_offsets-requires
put_offsets-requires c =
    let read = as-read c.args.book.now c.args.n c.requires.0 (omega arith) _ _ c.log_count-count.ensures.0 c.start-logs_at.ensures in
    (read.few, omega arith, omega arith)

pub overflow_add-count : goal.overflow_add-count
overflow_add-count c =
    omega (arith, as-read c.args.book.now c.args.n c.requires.0 (omega arith) _ _ c.log_count-count.ensures.0 c.start-logs_at.ensures)

pub returns : goal.returns
returns c =
    let z = c.args.book.now in
    let n = c.args.n in
    let log = c.args.log.now in
    let is = c.requires.0 in
    let room = c.requires.2 in
    let reach : n ≤ length z = omega arith in
    let read = as-read z n is reach _ _ c.log_count-count.ensures.0 c.start-logs_at.ensures in
    let step1 = c.copy_into.ensures.buffer ∙ after-log z n is reach log room in
    let on = moved-on c.copy_into.new.buffer c.start-logs_at.result n (omega arith) (omega arith) in
    let z2 = ap₂ (λ (k m : ℕ). with c.copy_into.new.buffer (k + 8) (area c.copy_into.new.buffer k m)) read.started (omega arith) in
    let step2 = c.copy_within.ensures.after ∙ on ∙ z2 ∙ after-move z n is reach log room c.copy_into.new.buffer step1 in
    let e : c.entry_bytes-entry.result ≡ entry (n + 8) log =
    c.entry_bytes-entry.ensures ∙ ap (λ (k : ℕ). k ∷ 0 ∷ two (length log) ++ four (n + 8)) c.call_in.ensures
    in
    let z3 = ap₂ (λ (k : ℕ) (bs : List ℕ). with c.copy_within.new.self k bs) read.started e in
    let step3 = c.copy_into-2.ensures.buffer ∙ z3 ∙ after-entry z n is reach log room c.copy_within.new.self step2 in
    let z4 = ap₂ (λ (k m : ℕ). take 20 c.copy_into-2.new.buffer ++ moved (k + 8) m (drop 20 c.copy_into-2.new.buffer)) read.started read.counted in
    let step4 = c.put_offsets.ensures ∙ z4 ∙ after-offsets z n is reach log room c.copy_into-2.new.buffer step3 in
    let z5 = ap₂ (λ (k m : ℕ). with c.put_offsets.new.book 0 (header (k + 1) (m + length log))) read.counted (omega arith) in
    c.put_header.ensures.buffer ∙ z5 ∙ after-header z n is reach log room c.put_offsets.new.book step4
