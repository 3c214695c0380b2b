-- `udsbench::talk_over` meets its contract: all that is written is what `bench` says of the input.
use Rattle.std.proofs.Common.{sym, subst}
use Rattle.std.specs.Io.KnownBytes.{Appends}
use Rattle.streams.proofs.Ends.{on_ok, if_some, any_some}
use Rattle.udsbench.proofs.Pieces.{no-store, all-spoken}
use Rattle.udsbench.proofs.talk_over.Goals as goal

pub returns-then-not-sound : goal.returns-then-not-sound
returns-then-not-sound g c =
    on_ok c.write_full.result
    (λ said. any_some (g.R.Read.remaining c.args.requests.now) (λ xs few. subst (Appends _ _) (no-store c.args.store.now xs (sym c.if-not-sound.ensures)) said))
    c.write_full.ensures

pub returns : goal.returns
returns g c =
    on_ok c.listen.result
    (λ spoken.
    if_some (g.R.Read.remaining c.args.requests.now)
    (λ xs said few. subst (Appends _ _) (all-spoken c.args.store.now xs (sym c.if-not-sound.ensures)) (said few))
    spoken)
    c.listen.ensures
