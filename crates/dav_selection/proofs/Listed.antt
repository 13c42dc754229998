-- A directory that was listed, whose members were brought into order.
use Rattle.std.proofs.Common.{◌≡◌, ◌⊎◌, List, Result, Err, sym, subst, inl, inr}
use Rattle.std.specs.Cmp.Lexicographic.{slice_cmp}
use Rattle.std.specs.List.Sorted.{IsPermutation, IsSortedByKey}
use Rattle.std.specs.Ordering.{nat_cmp}
use Rattle.dav_core.specs.declared.member.Member.{Member}
use Rattle.dav_store.specs.Members.{WasListed}
use Rattle.dav_store.specs.View.{View, Listings}
use Rattle.dav_report.specs.declared.answer.Record.{Record}
use Rattle.dav_report.specs.declared.error.ReportError.{ReportError}
use Rattle.dav_report.specs.declared.error.ReportError.TheVariants.{NoMemory}
use Rattle.dav_selection.specs.Reports.{AreInOrder, Queries, Selects, Sought, name_of}

pub in_order : (members sorted slice : List Member) → IsPermutation members sorted → IsSortedByKey name_of (slice_cmp nat_cmp) sorted → slice ≡ sorted
    → AreInOrder members slice
in_order members sorted slice each order same = subst (AreInOrder members) (sym same) (record { each = each; order = order })

pub listed_then : {S C F L E : Type 0} (view : View S C F) (lists : Listings S C L E) (c : C) (q : Sought) (s begin t : S) (members sorted slice : List Member) (result : Result (List Record) ReportError)
    → WasListed view lists s c q.dir members begin → IsPermutation members sorted → IsSortedByKey name_of (slice_cmp nat_cmp) sorted → slice ≡ sorted
    → Selects view c q slice begin result t ⊎ (result ≡ Err NoMemory) → Queries view lists c q s result t ⊎ (result ≡ Err NoMemory)
listed_then view lists c q s begin t members sorted slice result listed each order same (inl selects) =
    inl (inr (record { members = members; begin = begin; listed = listed; sorted = slice; order = in_order members sorted slice each order same; selects = selects }))
listed_then view lists c q s begin t members sorted slice result listed each order same (inr memory) = inr memory
