-- A log's line in the part of a buffer from an index on.
use Rattle.std.specs.Prelude as code
use Rattle.std.specs.Option.{unwrap_or}
use Prim.Native.Nat.{ℕ, ◌+◌, ◌-◌, ◌≤◌, ◌<◌}
use native.Mathlib.Omega.{arith}
use mathlib.Core.List.{List, [], ◌++◌, append_assoc, append-nil}
use mathlib.Core.Path.{◌≡◌, sym, ap, ◌∙◌}
use borrow.Author.Tests.{le-leb}
use borrow.Rule.Slice.PartMut.{mid_of, post_of, put_mid, same_len_mid}
use lib.ListN.{length, get_or, take, drop, length-append, length-drop, drop_of_length-le}
use lib.Seq.{take_all, drop-drop, length-take-le, take_at}
use Rattle.rules.specs.Logs.{line_of}
use Rattle.text.specs.Written.{put, Put, Wrote}
use Rattle.log_line.proofs.Longest.{line-fits, always-room}

-- What was put behind the first bytes stands behind them.
pub stood : (l line after : List ℕ) (at n : ℕ) → at ≤ length l → Put l at line after n → take n after ≡ take at l ++ line
unfolding put
stood l line after at n h p =
    let long : length (take at l ++ line) ≡ n = length-append (take at l) line ∙ ap (λ (k : ℕ). k + length line) (length-take-le at l h) ∙ sym p.next in
    ap (take n) p.line ∙ take_at (take at l ++ line) (drop (at + length line) l) n long

module _ (l : List ℕ) (at : ℕ) (room : at + 8222 ≤ length l) where
  abbrev behind : List ℕ
  behind = mid_of at (length l - at) l

  is-rest : behind ≡ drop at l
  is-rest = take_all (length l - at) (drop at l) (omega (arith, length-drop at l))

  enough : 8222 ≤ length behind
  enough = rw is-rest (omega (arith, length-drop at l))

  nothing-past : post_of at (length l - at) l ≡ []
  nothing-past =
      let all : length (drop at l) ≤ length l - at = omega (arith, length-drop at l) in
      drop_of_length-le (drop at l) all

  module _ (log : List ℕ) (bytes : (i : ℕ) → get_or log i 0 < 256) {r : code.Option ℕ} {after : List ℕ} (w : Wrote (line_of log) behind r after) where
    pub long : unwrap_or r 0 ≡ length (line_of log)
    long = ap (λ (n : code.Option ℕ). unwrap_or n 0) (always-room log bytes enough w)

    pub ends-inside : length after ≡ length behind → at + unwrap_or r 0 ≤ length (put_mid at (length l - at) l after)
    ends-inside kept = omega (arith, room, long, line-fits log bytes, same_len_mid at (length l - at) l after kept)

    pub put-behind : Put l at (line_of log) (put_mid at (length l - at) l after) (at + unwrap_or r 0)
    unfolding put
    put-behind =
        let line : List ℕ = line_of log in
        let fits = le-leb (length line) (length behind) (omega (arith, enough, line-fits log bytes)) in
        let whole : after ≡ line ++ drop (length line) behind = w.line ∙ rw fits in
        let rest : drop (length line) behind ≡ drop (at + length line) l = ap (drop (length line)) is-rest ∙ drop-drop (length line) at l in
        record {
          next = ap (λ (k : ℕ). at + k) long;
          line =
              ap (λ (x : List ℕ). take at l ++ (x ++ post_of at (length l - at) l)) whole ∙
              ap (λ (x : List ℕ). take at l ++ ((line ++ drop (length line) behind) ++ x)) nothing-past ∙
              ap (λ (x : List ℕ). take at l ++ x) (append-nil (line ++ drop (length line) behind)) ∙
              ap (λ (x : List ℕ). take at l ++ (line ++ x)) rest ∙
              sym (append_assoc (take at l) line (drop (at + length line) l));
        }
