-- The characters that no name of a file shows. Source: mandoc(1), DIAGNOSTICS; Unicode, 3.1 and 23.
use Rattle.std.specs.Prelude.{ℕ, Bool, ◌||◌, ◌==◌}
use Rattle.std.specs.Int.{is_in_range}
use Rattle.std.specs.Char.{is_control}

-- what changes the direction of text: the Arabic letter mark, embeddings and overrides, isolates
abbrev pub turns_text : ℕ → Bool
turns_text c = c == 0x061C || (is_in_range 0x202A 0x202E c || is_in_range 0x2066 0x2069 c)

-- what ends a line or a paragraph
abbrev pub ends_line : ℕ → Bool
ends_line c = is_in_range 0x2028 0x2029 c

-- tag characters, which are invisible
abbrev pub is_tag : ℕ → Bool
is_tag c = is_in_range 0xE0000 0xE007F c

abbrev pub is_hidden : ℕ → Bool
is_hidden c = is_control c || (turns_text c || (ends_line c || is_tag c))
