-- What is open stays open while another file is opened and closed.
use Rattle.std.proofs.Common.{◌≡◌, ◌≢◌, ℕ, Option, None, Some, IsSome, ap, ◌∙◌}
use Rattle.dav_core.specs.World.{put}
use Rattle.dav_core.specs.Disk.{Live}
use Rattle.dav_core.proofs.UnchangedLemmas.{put_other}

not_both : (o p : Option Live) → o ≡ p → IsSome o → p ≡ None → ⊥
not_both None p e there free = cc
not_both (Some l) p e there free = cc

pub open_still : (live : ℕ → Option Live) (b : ℕ) (own : Option Live) (h : ℕ) → live b ≡ None → IsSome (live h)
    → put b None (put b own live) h ≡ live h
open_still live b own h free there =
    let other : h ≢ b = λ same. not_both (live h) (live b) (ap live same) there free in
    put_other b h None (put b own live) other ∙ put_other b h own live other
