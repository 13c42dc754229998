-- What the code calls what a file's answer is wanted for.
use Rattle.std.specs.Prelude.{Option, None, Some}
use Rattle.dav_fetch.specs.declared.asking.Wanted.{Wanted}
use Rattle.dav_fetch.specs.declared.asking.Wanted.TheVariants.{Whole, Rest, Same}
use Rattle.dav_fetch.specs.declared.copied.Kept.{Kept}
use Rattle.dav_fetch.specs.Asking.{Awaits, whole, rest, same}

abbrev pub awaiting : Wanted → Option Kept → Awaits
awaiting Whole file = whole
awaiting Rest (Some f) = rest f
awaiting Same (Some f) = same f
awaiting Rest None = whole
awaiting Same None = whole
