-- What contracts of the code say by the definitions, and what is proved of these.
use Rattle.std.specs.Prelude.{◌≡◌, refl}
use Rattle.page_roff_decoding.specs.Decoding.{line_limit}

pub line_limit_is : line_limit ≡ 65536
unfolding line_limit
line_limit_is = refl
