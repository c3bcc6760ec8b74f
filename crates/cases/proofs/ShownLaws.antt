-- One byte more is shown.
use Prim.Native.Nat.{ℕ, ◌+◌, ◌<◌, ◌^◌, ◌-◌}
use mathlib.Core.Path.{◌≡◌, sym, ap, ◌∙◌}
use mathlib.Core.Bool.{false}
use mathlib.Core.List.{List, [], ◌++◌}
use lib.ListN.{length, get_or, take}
use lib.Chars.{codes}
use Rattle.std.specs.Fmt.{padded_integral, format_spec, digits}
use Rattle.std.proofs.lemmas.Fmt.{hex_byte}
use Rattle.std.proofs.lemmas.List.{flat_map_more, take_more}
use Rattle.cases.specs.Shown.{byte_text, bytes_text}

-- what `{:02x}` writes of a byte
abbrev pub in_two_digits : ℕ → List ℕ
in_two_digits b = padded_integral (format_spec 32 0 4 2 (2 ^ 64 - 1)) false [] (digits 16 false b)

pub byte_more :
    (l : List ℕ) (i : ℕ) → i < length l → get_or l i 0 < 256
    → bytes_text (take i l) ++ (codes " " ++ in_two_digits (get_or l i 0)) ≡ bytes_text (take (i + 1) l)
byte_more l i in_range byte =
    ap (λ (t : List ℕ). bytes_text (take i l) ++ (codes " " ++ t)) (hex_byte false (get_or l i 0) byte)
    ∙ flat_map_more byte_text [] (take i l) (get_or l i 0)
    ∙ ap bytes_text (sym (take_more l i 0 in_range))
