-- The program, as it is built.
use Rattle.std.specs.Prelude.{◌≡◌, ◌&&◌, ◌||◌, Bool, true, false, List, [], ◌∷◌, Some, is_some, bytes_eq, codes, find, refl, IfSome}
use Rattle.std.specs.List.{AllByRecursion as Each, list_all, list_any}
use Rattle.std.proofs.Common.{cond}
use Rattle.clap.specs.Walk.{Rule, Text, answers_to}
use Rattle.clap.specs.Simple.{Shape, built, label_of, names_of}
use Rattle.clap.specs.Words.{is_simple_and_free}
use Rattle.main_commands.specs.Grammar.{program}
use Rattle.main_commands.specs.Usage.{verb_of}
use Rattle.main_commands.proofs.Entered.{answers_is}
use Rattle.main_commands.proofs.Origins.{both_true, fits, has_none, nothing_in}

-- no argument has a rule on another, so that the parser says which faults it finds
pub is_free : is_simple_and_free program ≡ true
is_free = refl

abbrev pub top_rules : List Rule
top_rules = (built program).top.rules

abbrev pub operand : Text
operand = codes "operand"

-- a command has no other names, and its operand is read by its place alone
abbrev pub suits : Shape → Bool
suits s = has_none s.aliases && list_all (fits operand) s.rules

program_suits : list_all suits (built program).subs ≡ true
program_suits = refl

pub each_of : {X : Type 0} (p : X → Bool) (P : X → Type 0) (xs : List X) → ((x : X) → p x ≡ true → P x) → list_all p xs ≡ true → Each P xs
each_of p P [] holds e = tt
each_of p P (x ∷ xs) holds e =
    let both = both_true (p x) (list_all p xs) e in
    (holds x both.0, each_of p P xs holds both.1)

abbrev pub Suits : Shape → Type 0
Suits s = (s.aliases ≡ []) × (list_all (fits operand) s.rules ≡ true)

pub shapes_suit : Each Suits (built program).subs
shapes_suit =
    each_of suits Suits (built program).subs
    (λ s e. let both = both_true (has_none s.aliases) (list_all (fits operand) s.rules) e in (nothing_in s.aliases both.0, both.1)) program_suits

pub bare_names : Each (λ s. s.1 ≡ []) (names_of (built program))
bare_names = each_of (λ s. has_none s.1) (λ s. s.1 ≡ []) (names_of (built program)) (λ s e. nothing_in s.1 e) refl

pub found_shape : (word : Text) (subs : List Shape) → Each Suits subs → IfSome (find (λ s. answers_to word (label_of s)) subs) (λ s. Suits s × (s.name ≡ word))
found_shape word [] each = tt
found_shape word (s ∷ rest) each = go (answers_to word (label_of s)) refl (found_shape word rest each.1)
  where
    go : (b : Bool) → answers_to word (label_of s) ≡ b → IfSome (find (λ s. answers_to word (label_of s)) rest) (λ s. Suits s × (s.name ≡ word))
        → IfSome (cond b (Some s) (find (λ s. answers_to word (label_of s)) rest)) (λ s. Suits s × (s.name ≡ word))
    go true e later = (each.0, answers_is word s.name s.aliases each.0.0 e)
    go false e later = later

-- ---- its commands

-- a command of the table that wants its operand
abbrev pub is_command : Shape → Bool
is_command s = is_some (verb_of s.name) && list_any (λ a. a.required && bytes_eq a.id operand) s.rules

-- such a command, or `help`
abbrev pub is_known : Shape → Bool
is_known s = bytes_eq s.name (codes "help") || is_command s

program_known : list_all is_known (built program).subs ≡ true
program_known = refl

pub shapes_known : Each (λ s. is_known s ≡ true) (built program).subs
shapes_known = each_of is_known (λ s. is_known s ≡ true) (built program).subs (λ s e. e) program_known

pub found_each : {X : Type 0} (p : X → Bool) (P : X → Type 0) (xs : List X) → Each P xs → IfSome (find p xs) P
found_each p P [] each = tt
found_each p P (x ∷ xs) each = go (p x) (found_each p P xs each.1)
  where
    go : (b : Bool) → IfSome (find p xs) P → IfSome (cond b (Some x) (find p xs)) P
    go true later = each.0
    go false later = later
