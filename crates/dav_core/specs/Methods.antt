-- The methods that are known, and sets of them.
use Rattle.std.specs.Prelude.{◌==◌, ℕ, Bool, false, List, [], ◌∷◌, get_or, codes, Option, None, Some, Result, Ok, Err}
use Rattle.std.specs.List.{find}
use Rattle.std.specs.Str.{bytes_eq}
use Rattle.dav_core.specs.declared.dav_error.DavError.{DavError}
use Rattle.dav_core.specs.declared.dav_error.DavError.TheVariants.{UnknownDavMethod}
use Rattle.dav_core.specs.declared.method.DavMethod.{DavMethod}
use Rattle.dav_core.specs.declared.method.DavMethod.TheVariants.{Head, Get, Put, Patch, Options, PropFind, PropPatch, MkCol, Copy, Move, Delete, Lock, Unlock, Report, MkCalendar, MkAddressbook}
use Rattle.dav_core.specs.declared.method.DavMethodSet.{DavMethodSet}

-- a method and its word
pub record Word : Type 0 where
  pub word : List ℕ
  pub method : DavMethod

abbrev called : List ℕ → DavMethod → Word
called word method = record { word = word; method = method }

abbrev pub words : List Word
words =
    called (codes "HEAD") Head ∷ called (codes "GET") Get ∷ called (codes "PUT") Put ∷ called (codes "PATCH") Patch
    ∷ called (codes "OPTIONS") Options ∷ called (codes "PROPFIND") PropFind ∷ called (codes "PROPPATCH") PropPatch
    ∷ called (codes "MKCOL") MkCol ∷ called (codes "COPY") Copy ∷ called (codes "MOVE") Move
    ∷ called (codes "DELETE") Delete ∷ called (codes "LOCK") Lock ∷ called (codes "UNLOCK") Unlock
    ∷ called (codes "REPORT") Report ∷ called (codes "MKCALENDAR") MkCalendar
    ∷ called (codes "MKADDRESSBOOK") MkAddressbook
    ∷ []

abbrev pub known_method : Option Word → Result DavMethod DavError
known_method None = Err UnknownDavMethod
known_method (Some word) = Ok word.method

-- the method of a request's word
abbrev pub method_of : List ℕ → Result DavMethod DavError
method_of word = known_method (find (λ row. bytes_eq word row.word) words)

-- the place of a method in the list above
abbrev pub place : DavMethod → ℕ
place Head = 0
place Get = 1
place Put = 2
place Patch = 3
place Options = 4
place PropFind = 5
place PropPatch = 6
place MkCol = 7
place Copy = 8
place Move = 9
place Delete = 10
place Lock = 11
place Unlock = 12
place Report = 13
place MkCalendar = 14
place MkAddressbook = 15

abbrev pub same_method : DavMethod → DavMethod → Bool
same_method a b = place a == place b

-- whether a method is in a set
abbrev pub is_in : DavMethodSet → DavMethod → Bool
is_in set method = get_or set.has (place method) false
