-- The bytes of a field's value.
use Rattle.std.specs.Prelude.{ℕ, List, take}
use Rattle.dav_io.specs.declared.field_value.Bytes.{Bytes}
use Rattle.dav_io.specs.declared.field_value.Bytes.TheVariants.{Own, Short}

abbrev pub bytes_of : Bytes → List ℕ
bytes_of (Own bytes) = bytes
bytes_of (Short count place) = take count place
