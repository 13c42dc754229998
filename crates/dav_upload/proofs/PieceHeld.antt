-- A piece that is written keeps the bytes of an upload its pieces.
use Rattle.std.proofs.Common.{◌≡◌, ◌<◌, ◌+◌, ◌++◌, ℕ, List, length, Some, Ok, sym, ap, ◌∙◌, length-append}
use Rattle.std.specs.Prelude.{if◌then◌else◌}
use Rattle.dav_core.specs.declared.handle.OpenOptions.{OpenOptions}
use Rattle.dav_core.specs.Disk.{Live}
use Rattle.dav_core.specs.Writing.{written}
use Rattle.dav_store.specs.Files.{IsWritten, WritesIn, write_place}
use Rattle.dav_store.specs.Standing.{Seen}
use Rattle.dav_upload.specs.Pieces.{HoldsPieces, upload_options}
use Rattle.dav_upload.proofs.Making.{written_behind}

written_at : (place : ℕ) (f g : Seen) (pieces from : List ℕ) → place ≡ length pieces → f.stands.bytes ≡ pieces → IsWritten place from f g → HoldsPieces (pieces ++ from) g
written_at place f g pieces from at bytes done = record {
  bytes = done.bytes ∙ (ap (written place from) bytes ∙ (ap (λ p. written p from pieces) at ∙ written_behind from pieces));
  place = done.placed ∙ (ap (λ p. p + length from) at ∙ sym (length-append pieces from));
}

pub piece_stands : (l : Live) (f g : Seen) (pieces from : List ℕ) → l.how ≡ upload_options → HoldsPieces pieces f → 0 < length from → WritesIn (Some l) from (Ok tt) f g → HoldsPieces (pieces ++ from) g
piece_stands l f g pieces from how holds some writes =
    let here : write_place (Some l) f ≡ f.place = ap (λ (o : OpenOptions). if o.append then length f.stands.bytes else f.place) how in
    written_at (write_place (Some l) f) f g pieces from (here ∙ holds.place) holds.bytes (writes.1 some)
