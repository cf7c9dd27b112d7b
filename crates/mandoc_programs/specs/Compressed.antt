-- What a compressed page begins with. Source: gzip (RFC 1952, 2.3.1), xz (The .xz File Format, 2.1.1.1), bzip2(1), zstd (RFC 8878, 3.1.1).
use Rattle.std.specs.Prelude.{ℕ, Bool, false, List, [], ◌∷◌, ◌&&◌, ◌||◌, codes, drop, nat_eq}
use Rattle.std.specs.Int.{is_in_range}
use Rattle.std.specs.List.{starts_with}

abbrev pub is_gzip : List ℕ → Bool
is_gzip bytes = starts_with nat_eq bytes (0x1F ∷ 0x8B ∷ [])

abbrev pub is_xz : List ℕ → Bool
is_xz bytes = starts_with nat_eq bytes (0xFD ∷ 0x37 ∷ 0x7A ∷ 0x58 ∷ 0x5A ∷ 0 ∷ [])

-- the size of blocks, 1 to 9, and the first of them or, where there is none, their end
abbrev pub begins_blocks : List ℕ → Bool
begins_blocks [] = false
begins_blocks (size ∷ bytes) = is_in_range 49 57 size
    && (starts_with nat_eq bytes (0x31 ∷ 0x41 ∷ 0x59 ∷ 0x26 ∷ 0x53 ∷ 0x59 ∷ []) || starts_with nat_eq bytes (0x17 ∷ 0x72 ∷ 0x45 ∷ 0x38 ∷ 0x50 ∷ 0x90 ∷ []))

abbrev pub is_bzip2 : List ℕ → Bool
is_bzip2 bytes = starts_with nat_eq bytes (codes "BZh") && begins_blocks (drop 3 bytes)

abbrev pub is_zstd : List ℕ → Bool
is_zstd bytes = starts_with nat_eq bytes (0x28 ∷ 0xB5 ∷ 0x2F ∷ 0xFD ∷ [])

unfoldable pub is_compressed : List ℕ → Bool
is_compressed bytes = is_gzip bytes || (is_xz bytes || (is_bzip2 bytes || is_zstd bytes))
