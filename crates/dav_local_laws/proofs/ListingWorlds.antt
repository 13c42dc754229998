-- The calls of listings leave what stands in the told world.
use Rattle.std.proofs.Common.{◌≡◌, ℕ, List, Option, None, Some, Result, Ok, Err, refl}
use Rattle.dav_core.specs.declared.handle.DiskError.{DiskError}
use Rattle.dav_core.specs.declared.handle.Lister.{Lister}
use Rattle.dav_core.specs.Listing.{ListedIn, NextIn, with_listings}
use Rattle.dav_core.specs.Path.{Names}
use Rattle.dav_core.specs.World.{SameBesidesOpens, World, put}
use Rattle.dav_core.proofs.UnchangedLemmas.{same_besides}

listings_besides : (v : World) (listings : ℕ → Option Names) → SameBesidesOpens v (with_listings v listings)
listings_besides v listings = record { tree = refl; files = λ number held. (held, refl); greatest = refl; latest = refl; script = refl }

pub same_world : (v x : World) (listings : ℕ → Option Names) → x ≡ with_listings v listings → SameBesidesOpens v x
same_world v x listings e = rw e (listings_besides v listings)

pub listed_besides : (path : Names) (answer : Result Lister DiskError) (v w : World) → ListedIn path answer v w → SameBesidesOpens v w
listed_besides path (Ok l) v w (names, is, rows) = same_world v w (put l.0 (Some names) v.listings) is
listed_besides path (Err d) v w (is, rows) = rw is (same_besides v)

pub next_besides : (l : ℕ) (answer : Result (Option (List ℕ)) DiskError) (v w : World) → NextIn l answer v w → SameBesidesOpens v w
next_besides l (Ok (Some name)) v w (rest, first, is) = same_world v w (put l (Some rest) v.listings) is
next_besides l (Ok None) v w (none, is) = rw is (same_besides v)
next_besides l (Err d) v w is = rw is (same_besides v)
