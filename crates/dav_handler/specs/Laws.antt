-- What the laws of a store say of what is found over it, from a state on.
use Rattle.std.specs.Prelude.{◌≡◌, ℕ, List, Bool, true, false, Option, Some}
use Rattle.dav_io.specs.Counts.{RefusedNothing}
use Rattle.dav_core.specs.declared.method.DavMethod.{DavMethod}
use Rattle.dav_core.specs.DavPath.{WebPath}
use Rattle.dav_core.specs.Disk.{TellsLive}
use Rattle.dav_core.specs.World.{World}
use Rattle.dav_model.specs.Calls.{AreNear, IsWalkedBy, calls_to_open, calls_to_seek, is_meant, is_touched}
use Rattle.dav_model.specs.Conditions.{Fields}
use Rattle.dav_model.specs.Due.{OfItsPaths, Query, query}
use Rattle.dav_model.specs.Head.{Reply}
use Rattle.dav_model.specs.Play.{Reads}
use Rattle.dav_model.specs.Rules.{Knowledge, Rules}
use Rattle.dav_walks.specs.Follows.{Follows, Reached}
use Rattle.dav_store.specs.Leads.{LeadsOn}
use Rattle.dav_methods.specs.Answers.{RefusesUsually}
use Rattle.dav_methods.specs.Changing.{Changes}
use Rattle.dav_methods.specs.Lines.{Given as GivenBy}
use Rattle.dav_local.specs.declared.entry.LocalFsDirEntry.{LocalFsDirEntry}
use Rattle.dav_local.specs.declared.file.LocalFsFile.{LocalFsFile}
use Rattle.dav_local.specs.declared.gathering.LocalFsReadDir.{LocalFsReadDir}
use Rattle.dav_local.specs.Files.{seen_by}
use Rattle.dav_local.specs.LocalFiles.{local_file}
use Rattle.dav_get.specs.Bodies.{IsHeld}
use Rattle.dav_get.specs.Calls.{AsksAtMostFor, AsksFor}
use Rattle.dav_get.specs.Heard.{Heard}
use Rattle.dav_get.specs.Lives.{OpenOnlyHeld}
use Rattle.dav_get.specs.Right.{IsOfNumber, or_zero, reply_at}
use Rattle.dav_get.specs.Table.{Given}
use Rattle.dav_config.specs.Handling.{Served}
use Rattle.dav_handler.specs.By.{By, Over}
use Rattle.dav_handler.specs.Found.{Stays}
use Rattle.dav_handler.specs.Held.{Body, handle_of}

module _ {S C : Type 0} (served : Served S C LocalFsFile LocalFsReadDir LocalFsDirEntry) (by_of : S → By) (c : C) (s : S)
  where
    abbrev over : S → Over
    over x = record { by = by_of x; disk = served.view.state x }

    abbrev rules : Rules
    rules = (by_of s).rules

    abbrev knows : Knowledge
    knows = (by_of s).knows

    abbrev asked : Fields → DavMethod → WebPath → Query
    asked fields method path = query rules.settings fields method path

    pub record Laws : Type 0 where
      pub void : served.void s ≡ false
      -- its files are those of a local store
      pub seen : served.view.file.seen ≡ seen_by
      pub handle : served.view.file.handle ≡ handle_of
      pub held : (t : S) (b : Body) → IsHeld served.view.file (served.view.state t) b
          → IsHeld local_file (served.view.state t) b
      pub tells : (t : S) → TellsLive (served.view.state t)
      -- a GET or HEAD: what it leaves, that it is right, and how often the disk is asked
      pub reads_stay : (t : S) → LeadsOn served.view served.lists c s t → Stays (over s) (over t)
      pub right : (fields : Fields) (method : DavMethod) (path : WebPath) (t : S) (given : Given LocalFsFile)
          (reply : Reply) → OpenOnlyHeld served.view s given t
          → Heard served.view served.lists (asked fields method path) c s given t
          → ((number : Option ℕ) → IsOfNumber served.view number t given
          → reply_at fields (or_zero number) given ≡ reply)
          → Reads rules knows (served.view.state s) (served.view.state t) (asked fields method path) reply
      pub meant : (fields : Fields) (method : DavMethod) (path : WebPath) (most : ℕ) → is_meant rules ≡ true
          → is_touched rules path ≡ false → AsksFor served.view served.lists (asked fields method path) 1 most s
      pub unsought : (fields : Fields) (method : DavMethod) (path : WebPath) → is_meant rules ≡ true
          → AsksAtMostFor served.view served.lists (asked fields method path) 2 s
      pub near : (fields : Fields) (method : DavMethod) (path : WebPath) (most : ℕ) (w : World) (held : Bool)
          → is_meant rules ≡ false → RefusedNothing (served.view.state s).faults most
          → (served.view.state s).told ≡ Some w → AreNear held rules knows w (asked fields method path)
          → AsksFor served.view served.lists (asked fields method path) (calls_to_open held) most s
      pub sought : (fields : Fields) (method : DavMethod) (path : WebPath) (most : ℕ) (w : World)
          → is_meant rules ≡ false → (served.view.state s).told ≡ Some w
          → OfItsPaths (asked fields method path) (IsWalkedBy most w)
          → AsksAtMostFor served.view served.lists (asked fields method path) (calls_to_seek most) s
      -- a method that writes: its calls follow the rules, and what they leave
      pub usual : RefusesUsually served.view served.lists served.writes c
      pub follows : Follows served.view served.lists served.writes c rules knows s
      pub leads : (method : DavMethod) (prefix : List ℕ) (path : WebPath) (fields : Fields) (body : List ℕ) (r : GivenBy)
          (t : S) → Changes served.view served.lists served.writes c method prefix path fields body s r t
          → Reached served.view served.lists served.writes c s t
      pub writes_stay : (t : S) → Reached served.view served.lists served.writes c s t → Stays (over s) (over t)
