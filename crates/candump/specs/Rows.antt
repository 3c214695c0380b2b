-- Rows of lines: what each of them is.
use Rattle.std.specs.Prelude.{ℕ, List, [], ◌∷◌, ◌++◌, map, ◌≡◌}
use Rattle.rules.specs.Lines.{ascii}
use Rattle.candump.specs.Lines.{Line, blank, unreadable, other, frame, read}

pub record Row : Type 0 where
  pub text : List ℕ
  pub line : Line

abbrev pub reads : List ℕ → Line → Row
reads t l = record { text = t; line = l }

unfoldable pub rows : List Row
rows =
    reads (ascii "(1700000000.100000) can0 7E8#023E00 R") (frame 1700000000100000 0x7e8 (0x02 ∷ 0x3e ∷ 0x00 ∷ [])) ∷
    reads (ascii "(0.000001) can0 7e8#023e00") (frame 1 0x7e8 (0x02 ∷ 0x3e ∷ 0x00 ∷ [])) ∷
    reads (ascii "(1.000000)  vcan0   7E8#  T  ") (frame 1000000 0x7e8 ([])) ∷
    reads (ascii "(1.000000) can0 7E8#023E00 " ++ (13 ∷ [])) (frame 1000000 0x7e8 (0x02 ∷ 0x3e ∷ 0x00 ∷ [])) ∷
    reads (ascii "(1.000000) can0 000007E8#02") (frame 1000000 0x800007e8 (0x02 ∷ [])) ∷
    reads (ascii "(1.000000) can0 18DAF110#1122334455667788") (frame 1000000 0x98daf110 (0x11 ∷ 0x22 ∷ 0x33 ∷ 0x44 ∷ 0x55 ∷ 0x66 ∷ 0x77 ∷ 0x88 ∷ [])) ∷
    reads (ascii "(1.000000) can0 18DAF110#112233445566778899") unreadable ∷
    reads (ascii "(1.000000) can0 7E8#123") unreadable ∷
    reads (ascii "(1.000000) can0 800#00") unreadable ∷
    reads (ascii "(1.000000) can0 40000000#00") unreadable ∷
    reads (ascii "(1.000000) can0 20000080#0000") (other 1000000) ∷
    reads (ascii "(1.000000) can0 7E8#R") (other 1000000) ∷
    reads (ascii "(1.000000) can0 7E8#R8 T") (other 1000000) ∷
    reads (ascii "(1.000000) can0 7E8#R9") unreadable ∷
    reads (ascii "(1.000000) can0 7E8##0027E00") (other 1000000) ∷
    reads (ascii "(1.000000) can0 7E8##") unreadable ∷
    reads (ascii "(1.000000) can0 7E8##02") unreadable ∷
    reads (ascii "") blank ∷
    reads (ascii "   " ++ (13 ∷ [])) blank ∷
    reads ((13 ∷ []) ++ (13 ∷ [])) unreadable ∷
    reads (ascii " (1.000000) can0 7E8#00") unreadable ∷
    reads (ascii "(1.00000) can0 7E8#00") unreadable ∷
    reads (ascii "(1.0000000) can0 7E8#00") unreadable ∷
    reads (ascii "(12345678901.000000) can0 7E8#00") unreadable ∷
    reads (ascii "(9999999999.999999) can0 7E8#00") (frame 9999999999999999 0x7e8 (0x00 ∷ [])) ∷
    reads (ascii "(.000000) can0 7E8#00") unreadable ∷
    reads (ascii "(1.000000)can0 7E8#00") unreadable ∷
    reads (ascii "(1.000000) can0" ++ (9 ∷ []) ++ ascii "7E8#00") unreadable ∷
    reads (ascii "(1.000000) can0 7E8 00") unreadable ∷
    reads (ascii "(1.000000) can0 7E8#00 X") unreadable ∷
    reads (ascii "(1.000000) can0 7E8#00 R T") unreadable ∷
    reads (ascii "(1.000000) can0 7E8#00R") unreadable ∷
    reads (ascii "DROPCOUNT: 3") unreadable ∷
    reads (ascii "# comment") unreadable ∷
    reads (ascii "(1.000000) can0 7E8#00_B") unreadable ∷
    reads (ascii "(1.000000) 7E8#00") unreadable ∷
    []

abbrev pub Rows : Type 0
Rows = map (λ (x : Row). read x.text) rows ≡ map (λ (x : Row). x.line) rows
