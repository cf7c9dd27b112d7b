-- The content of a quoted argument, by what is first in it. Source: roff(7), "Escape sequences".
use Rattle.std.specs.Prelude.{ℕ, ◌+◌, ◌==◌, nat_eq, Bool, List, ◌∷◌, drop, if◌then◌else◌, Option, Some, option_map, option_and_then}
use Rattle.std.specs.List.{starts_with}
use Rattle.page_core_base.specs.Bytes.{ascii}
use Rattle.page_core_escapes.specs.Lengths.{content_len, escape_len}

-- how many bytes are before the delimiter: an escape is passed over, the delimiter ends the content, and any other byte is of it
abbrev pub content_from : (pairs : Bool) → (delimiter : List ℕ) → ℕ → List ℕ → Option ℕ
content_from pairs delimiter byte bytes =
    let text = byte ∷ bytes in
    if byte == ascii "\\" then option_and_then (λ n. option_map (λ k. n + k) (content_len pairs delimiter (drop n text))) (escape_len pairs text)
    else (if starts_with nat_eq text delimiter then Some 0
    else option_map (λ k. 1 + k) (content_len pairs delimiter bytes))
