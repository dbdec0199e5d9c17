-- What is known of the passes with which tests call.
use Rattle.std.specs.Prelude.{◌≡◌, ℕ, ◌&&◌, Bool, true, false, length}
use Rattle.std.specs.List.{list_any}
use Rattle.office_core.specs.Sessions.{adopts, ends}
use Rattle.office_sharing.specs.declared.view.View.{View}

-- a pass that calls and did not end its session, into which no calls were joined
pub record IsCaller (v : View) : Type 0 where
  pub calls : v.may_call ≡ true
  pub kept : length v.kept ≡ 0
  pub makes : v.makes ≡ false
  pub lives : list_any (ends v.number) v.mine ≡ false

-- where this is true, the session of the pass was adopted
abbrev pub IsAdopted : Bool → View → Type 0
IsAdopted adopted v = (adopted && list_any (adopts v.number) v.mine) ≡ adopted

-- a copy of a pass, which makes no call
pub record IsCopy (v : View) : Type 0 where
  pub calls : v.may_call ≡ false
  pub kept : length v.kept ≡ 0
  pub makes : v.makes ≡ false

-- the pass that makes the others, after so many numbers were given, and so many passes joined into it
pub record IsMaker (count joined : ℕ) (v : View) : Type 0 where
  pub calls : v.may_call ≡ true
  pub makes : v.makes ≡ true
  pub given : v.given ≡ count
  pub kept : length v.kept ≡ joined
