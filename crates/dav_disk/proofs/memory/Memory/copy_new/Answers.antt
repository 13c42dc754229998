use Rattle.std.proofs.Common.{◌≡◌, List, ℕ, refl, sym, subst, ◌∙◌, Ok, Some, OnOk}
use Rattle.dav_core.specs.Path.{Names}
use Rattle.dav_core.specs.World.{World, bytes_of}
use Rattle.dav_core.specs.Changes.{file_added}
use Rattle.dav_core.specs.Edits.{Edit, makes}
use Rattle.dav_core.specs.declared.tree.Kind.TheVariants.{File}
use Rattle.dav_disk.specs.Calls.{Known}
use Rattle.dav_disk.specs.Memory.{known_of}
use Rattle.dav_disk.proofs.Standing.{file_is_left, file_made, make_at}
use Rattle.dav_disk.proofs.memory.Memory.copy_new.Goals as goal

pub returns : goal.returns
returns c =
    let k : Known = known_of c.args.self.now in
    let w : World = k.world in
    let bytes : List ℕ = bytes_of w c.args.number in
    let edit : Edit = makes c.args.to.now File bytes in
    let same : c.new.result ≡ bytes = c.new.ensures ∙ c.in-Ok-from_slice.ensures.items ∙ c.bytes_at.ensures in
    let left = file_is_left w c.args.to.now bytes (sym c.has_row_left.ensures ∙ c.if-not-has_row_left.false) in
    make_at (Ok (Some edit)) edit k (known_of c.make.new.self) (file_added w c.args.to.now bytes) c.make.result refl left
    (file_made w (file_added w c.args.to.now bytes) c.args.to.now bytes c.requires left refl)
    (subst (λ (p : Names). OnOk c.make.result (known_of c.make.new.self ≡ record k { world = file_added w p bytes })) c.in-Ok.ensures.copy
    (subst (λ (b : List ℕ). OnOk c.make.result (known_of c.make.new.self ≡ record k { world = file_added w c.in-Ok.path b })) same c.make.ensures.ok))
    c.make.ensures.err
