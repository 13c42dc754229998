-- A local store shows open files as the world has them that its disk tells.
use Rattle.std.specs.Prelude.{◌≡◌, ℕ, length, Option, None, Some, refl}
use Rattle.std.specs.Option.{option_map}
use Rattle.std.proofs.Common.{ap, subst, ◌∙◌, inr}
use Rattle.dav_core.specs.declared.tree.Kind.{Kind}
use Rattle.dav_core.specs.declared.tree.Kind.TheVariants.{File}
use Rattle.dav_core.specs.Disk.{Live}
use Rattle.dav_core.specs.Info.{known, tag_of}
use Rattle.dav_core.specs.World.{OpenFile, World, bytes_of, time_of}
use Rattle.dav_store.specs.Standing.{Seen}
use Rattle.dav_local.specs.LocalFiles.{local_file}
use Rattle.dav_local.specs.Standing.{seen_in, seen_with}
use Rattle.dav_readcache.specs.Sound.{AreFilesTold, IsFileIn}

opened : (w : World) (kind : Kind) (h : ℕ) (o : Option OpenFile) (f : Seen) → w.opens h ≡ o → option_map (seen_in w kind) o ≡ Some f → f.stands.kind ≡ File → IsFileIn w f.stands
opened w kind h None f at e regular = cc
opened w kind h (Some o) f at e regular =
    let same : seen_in w kind o ≡ f = cc in
    let file : kind ≡ File = ap (λ (x : Seen). x.stands.kind) same ∙ regular in
    subst (λ (x : Seen). IsFileIn w x.stands) same (record {
      held = inr (h, ap (option_map (λ (x : OpenFile). x.number)) at);
      kind = file;
      tag = ap (λ k. tag_of k o.number (length (bytes_of w o.number)) (known (time_of w o.number))) file;
      bytes = refl;
      len = refl;
    })

told_by : (told : Option World) (live : Option Live) (h : ℕ) (f : Seen) → seen_with told live h ≡ Some f → f.stands.kind ≡ File → (v : World) × (told ≡ Some v) × IsFileIn v f.stands
told_by None live h f e regular = cc
told_by (Some w) None h f e regular = cc
told_by (Some w) (Some l) h f e regular = (w, refl, opened w l.kind h (w.opens h) f refl e regular)

pub local_files_told : AreFilesTold local_file
local_files_told file s f seen regular = told_by s.told (s.live file.handle.0) file.handle.0 f seen regular
