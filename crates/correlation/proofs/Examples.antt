-- Keys, bindings and releases computed on small examples.
use Rattle.std.specs.Prelude.{◌≡◌, ℕ, pos, Bool, true, false, List, [], ◌∷◌, Option, None, Some, refl}
use Rattle.jolie_trees.specs.declared.root.Root.{Root}
use Rattle.jolie_trees.specs.declared.root.Root.TheVariants as root
use Rattle.correlation.specs.Order.{are_equal}
use Rattle.correlation.specs.Sessions.{are_sets, changed, freed, holder, is_born, is_live, key_of, newborn, reply_to, write}
use Rattle.correlation.specs.declared.bind_reply.BindReply.TheVariants as reply
use Rattle.correlation.specs.declared.session.Session.{Session}
use Rattle.correlation.specs.declared.session.SetOf.{SetOf}

-- set 5 of the variables 1 and 2, and set 6 of the variable 3
abbrev pair : SetOf
pair = record { set = 5; variables = 1 ∷ 2 ∷ [] }

abbrev single : SetOf
single = record { set = 6; variables = 3 ∷ [] }

-- sessions 0 and 7 of these sets, of which 0 has 4 and "a" as its key in set 5
abbrev rows : List Session
rows = write 2 (root.Text (97 ∷ [])) (write 1 (root.Int (pos 4)) (newborn 0 (pair ∷ single ∷ []))) ∷ newborn 7 (pair ∷ single ∷ []) ∷ []

-- the same, and 4 in variable 1 of session 7
abbrev more : List Session
more = changed 7 (write 1 (root.Long (pos 4))) rows

pub two_sets : are_sets (pair ∷ single ∷ []) ≡ true
two_sets = refl

pub one_number_twice : are_sets (pair ∷ record { set = 5; variables = 3 ∷ [] } ∷ []) ≡ false
one_number_twice = refl

pub one_variable_twice : are_sets (pair ∷ record { set = 6; variables = 3 ∷ 2 ∷ [] } ∷ []) ≡ false
one_variable_twice = refl

pub no_variable : are_sets (pair ∷ record { set = 6; variables = [] } ∷ []) ≡ false
no_variable = refl

pub equal_by_value : are_equal (root.Int (pos 4) ∷ root.Text (97 ∷ []) ∷ []) (root.Long (pos 4) ∷ root.Text (97 ∷ []) ∷ []) ≡ true
equal_by_value = refl

pub truth_is_no_number : are_equal (root.Bool true ∷ []) (root.Int (pos 1) ∷ []) ≡ false
truth_is_no_number = refl

pub shorter_differs : are_equal (root.Int (pos 4) ∷ []) (root.Int (pos 4) ∷ root.Void ∷ []) ≡ false
shorter_differs = refl

-- a key is complete once each variable of the set is written
pub half_a_key : key_of (write 1 (root.Int (pos 4)) (newborn 0 (pair ∷ single ∷ []))) 5 ≡ None
half_a_key = refl

pub who_has_the_key : holder rows 5 (root.Long (pos 4) ∷ root.Text (97 ∷ []) ∷ []) ≡ Some 0
who_has_the_key = refl

pub no_one_has_another : holder rows 5 (root.Long (pos 4) ∷ root.Text (98 ∷ []) ∷ []) ≡ None
no_one_has_another = refl

pub not_in_the_other_set : holder rows 6 (root.Long (pos 4) ∷ root.Text (97 ∷ []) ∷ []) ≡ None
not_in_the_other_set = refl

-- a variable is written once
pub written_twice : reply_to rows 0 1 (root.Int (pos 5)) ≡ Some reply.Fixed
written_twice = refl

-- half a key is bound, though the first session has the same half
pub first_half : reply_to rows 7 1 (root.Long (pos 4)) ≡ Some reply.Bound
first_half = refl

-- the second half of a key that a session has
pub second_half : reply_to more 7 2 (root.Text (97 ∷ [])) ≡ Some (reply.Held 0)
second_half = refl

pub another_second_half : reply_to more 7 2 (root.Text (98 ∷ [])) ≡ Some reply.Bound
another_second_half = refl

-- a session that is released has no key
pub released : holder (changed 0 freed more) 5 (root.Int (pos 4) ∷ root.Text (97 ∷ []) ∷ []) ≡ None
released = refl

pub key_is_free : reply_to (changed 0 freed more) 7 2 (root.Text (97 ∷ [])) ≡ Some reply.Bound
key_is_free = refl

pub born_and_released : is_born (changed 0 freed rows) 0 ≡ true
born_and_released = refl

pub not_live : is_live (changed 0 freed rows) 0 ≡ false
not_live = refl

-- nobody of the number
pub not_born : reply_to rows 1 1 root.Void ≡ None
not_born = refl
