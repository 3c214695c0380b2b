-- `bench_line::read` meets its contract.
use Rattle.bench_line.proofs.Answering.{no_room, asks}
use Rattle.bench_line.proofs.read.Goals as goal

pub returns-in_err-room : goal.returns-in_err-room
returns-in_err-room c =
    let behind = rw c.space_at.ensures.0 at c.split_at.ensures.back in
    rw c.from_residual-in_err-room.ensures (no_room c.args.asked.now (rw behind at c.in_err-room.ensures))

pub returns : goal.returns
returns c =
    let digits = rw c.space_at.ensures.0 at c.split_at.ensures.front in
    let behind = rw c.space_at.ensures.0 at c.split_at.ensures.back in
    asks c.args.asked.now c.in_ok-size.size c.read_hex.new.request (rw digits at c.if-digits-ne0.false) (rw digits at c.if-digits-gt8190.false) (rw digits at c.in_ok-size.ensures) (rw behind at c.in_ok-room.ensures)
