use Rattle.std.proofs.Common.{◌∙◌, ◌++◌, ◌∷◌, [], codes, ap}
use Rattle.dav_core.specs.Disk.{DiskState}
use Rattle.dav_core.specs.Path.{Names}
use Rattle.session_rows.proofs.Telling.{can_add_dir, can_add_file}
use Rattle.session_rows.proofs.told.told_disk.Goals as goal

pub add_dir-requires : goal.add_dir-requires
add_dir-requires c =
    can_add_dir _ c.in_ok-dir.dir c.args.time (ap (λ (s : DiskState). s.told) c.in_ok-disk.ensures.made)
    (c.in_ok-dir.ensures ∙ ap (λ (p : Names). p ++ codes "d" ∷ []) (c.new-2.ensures ∙ c.new.ensures.items)) c.requires.set

pub add_file-requires : goal.add_file-requires
add_file-requires c =
    can_add_file _ _ c.in_ok-dir.dir c.in_ok-file.file c.args.time c.args.name.now (ap (λ (s : DiskState). s.told) c.in_ok-disk.ensures.made)
    (c.in_ok-dir.ensures ∙ ap (λ (p : Names). p ++ codes "d" ∷ []) (c.new-2.ensures ∙ c.new.ensures.items))
    (ap (λ (s : DiskState). s.told) c.in_ok-add_dir.ensures.ok) c.in_ok-file.ensures c.requires.set
