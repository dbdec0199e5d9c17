-- Why a message was not put into a box.
use Rattle.std.specs.Prelude.{◌≡◌, ◌<◌, List, length}
use Rattle.post_box.specs.declared.boxes.PutError.{PutError}
use Rattle.post_box.specs.declared.boxes.PutError.TheVariants.{Full, Memory}
use Rattle.post_box.specs.declared.mailbox.Waiting.{Waiting}
use Rattle.post_box.specs.Limit.{box_limit}

-- a box takes one message more
abbrev pub HasRoom : List Waiting → Type 0
HasRoom box = length box < box_limit

-- a refusal by a full box, or for want of memory by one that is not full
abbrev pub Refuses : List Waiting → PutError → Type 0
Refuses box Full = length box ≡ box_limit
Refuses box (Memory e) = HasRoom box
