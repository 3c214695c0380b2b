-- What `udsmend` writes: the mended log on standard output, and on standard error "kept KEPT promised PROMISED" with a line "FIELD OLD NEW" for each header field rewritten.
use Rattle.std.specs.Prelude.{ℕ, cond, List, [], ◌∷◌, ◌++◌, eqb}
use Prim.Native.String.{String}
use Rattle.rules.specs.Lines.{ascii, decimal, spaced}
use Rattle.mending.specs.Mend.{Report, Mended, refused, mended}

-- A word and a number.
abbrev pub counted : String → ℕ → List ℕ
counted word n = ascii word ++ spaced (decimal n)

-- "each header field that it rewrote, old and new": those whose value changed.
abbrev pub field : String → ℕ → ℕ → List ℕ
field name old new = cond (eqb old new) [] (counted name old ++ spaced (decimal new) ++ (10 ∷ []))

-- In the header's order. The argument count is never rewritten.
abbrev pub rewrote : Report → List ℕ
rewrote r =
    field "arguments-offset" r.old.arguments_at r.new.arguments_at ++
    (field "events-count" r.old.events r.new.events ++
    (field "events-offset" r.old.events_at r.new.events_at ++
    (field "replies-count" r.old.replies r.new.replies ++
    (field "replies-offset" r.old.replies_at r.new.replies_at ++
    field "total" r.old.total r.new.total))))

-- "the events kept and promised"
abbrev pub reported : Report → List ℕ
reported r = counted "kept" r.new.events ++ counted " promised" r.old.events ++ (10 ∷ rewrote r)

-- Standard error.
unfoldable pub said : Mended → List ℕ
said (refused n) = counted "refused" n ++ (10 ∷ [])
said (mended log r) = reported r

-- Standard output: "nothing where refused".
unfoldable pub put : Mended → List ℕ
put (refused n) = []
put (mended log r) = log
