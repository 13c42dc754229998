use Rattle.std.proofs.Common.{◌∙◌, ◌++◌, ap, refl}
use Rattle.dav_disk.proofs.Written.{pieces}
use Rattle.dav_disk.proofs.writing.spliced.Goals as goal

pub returns : goal.returns
returns c =
    pieces c.args.place _ c.args.from.now c.args.bytes.now c.in_ok-all.all.items c.extend_from_slice.new.self.items c.extend_from_slice-2.new.self.items
    c.in_ok-all.ensures c.in_ok-extend_from_slice.ensures.items (c.in_ok-extend_from_slice-2.ensures.items ∙ ap (λ xs. c.extend_from_slice.new.self.items ++ xs) c.rest_of.ensures) refl
