-- What is known of a live lister, after its listing was asked.
use Rattle.std.proofs.Common.{◌≡◌, ℕ, List, Option, None, Some, IsSome, Result, Ok, Err, refl, sym, ap, subst, ◌∙◌}
use Rattle.std.specs.Option.{option_map}
use Rattle.std.specs.Ordering.{nat_cmp}
use Rattle.std.specs.BTreeMap.{BTreeMap, WritesThrough, get_by}
use Rattle.dav_core.specs.declared.handle.DiskError.{DiskError}
use Rattle.dav_core.specs.Listing.{ListersAfterNext}
use Rattle.dav_core.specs.World.{at_key, put}
use Rattle.dav_core.proofs.TablesLemmas.{updates_put, value_written, value_kept}
use Rattle.dav_host.specs.declared.listings.HostListing.{HostListing}
use Rattle.std.specs.declared.alloc.Global.{Global}
use Rattle.std.specs.declared.fs.dir.ReadDir.{ReadDir}
use Rattle.dav_host.specs.Entries.{Entry}
use Rattle.dav_host.specs.Listings.{left_of, listers_at, IsFewer, GoesAt}

pub lister_asked : {R F D : Type 0} (l : ℕ) (old : BTreeMap ℕ (HostListing R F D)) (lender : HostListing R F D → BTreeMap ℕ (HostListing R F D)) (x w : HostListing R F D)
    (result : Result (Option (List ℕ)) DiskError) → ((w : HostListing R F D) → WritesThrough nat_cmp (nat_cmp l) old w (lender w))
    → Some x ≡ get_by (nat_cmp l) old → IsFewer x.left result w.left → ListersAfterNext l result (listers_at old) (listers_at (lender w))
lister_asked l old lender x w (Ok (Some name)) writes at fewer =
    (w.left, ap (option_map left_of) (sym at) ∙ ap Some fewer, value_written left_of l old lender x w writes at)
lister_asked l old lender x w (Ok None) writes at same = value_kept left_of l old lender x w writes at same
lister_asked l old lender x w (Err e) writes at same = value_kept left_of l old lender x w writes at same

-- a table of listings, after one was asked
pub listing_written : {X : Type 0} (l : ℕ) (old : BTreeMap ℕ X) (lender : X → BTreeMap ℕ X) (x w : X) → ((w : X) → WritesThrough nat_cmp (nat_cmp l) old w (lender w))
    → Some x ≡ get_by (nat_cmp l) old → (λ n. at_key (lender w) n) ≡ put l (Some w) (λ n. at_key old n)
listing_written l old lender x w writes at = updates_put l old (lender w) (Some w) ((writes w).3 (subst IsSome at refl))

-- what a call did to a listing, where its error was counted
pub goes_counted : {R F D : Type 0} (gives : ReadDir R Global F D → Option (Entry R Global F D) → ReadDir R Global F D → Type 0) (l : ℕ)
    (old mid new : BTreeMap ℕ (HostListing R F D)) (e r : DiskError) → r ≡ e → new ≡ mid → GoesAt gives l old (Err e) mid → GoesAt gives l old (Err r) new
goes_counted gives l old mid new e r same kept goes =
    subst (λ m. GoesAt gives l old (Err r) m) (sym kept) (subst (λ x. GoesAt gives l old (Err x) mid) (sym same) goes)
