-- Of which names what is noted.
use Rattle.std.specs.Prelude.{Bool, true, false, ◌||◌}
use Rattle.explain_notes.specs.declared.role.Role.{Role}
use Rattle.explain_notes.specs.declared.role.Role.TheVariants as role
use Rattle.explain_notes.specs.Mentions.{is_free, is_set}
use Rattle.explain_notes.specs.declared.kind.NoteKind.{NoteKind}
use Rattle.explain_notes.specs.declared.kind.NoteKind.TheVariants as kind

-- the value of a variable is used, or answered
abbrev pub takes_value : Role → Bool
takes_value role.Read = true
takes_value role.FieldRead = true
takes_value role.RootTaken = true
takes_value role.Answered = true
takes_value role.LeftUnset = true
takes_value r = false

-- it may be noted of a name in this role
abbrev pub is_noted : NoteKind → Role → Bool
is_noted kind.Uncaught role.Thrown = true
is_noted kind.Uncaught role.Rethrown = true
is_noted kind.UncaughtInLoop role.ThrownInLoop = true
is_noted kind.EndsService role.ThrownInLoop = true
is_noted kind.EndsLoop role.FailingInLoop = true
is_noted kind.CallEndsLoop role.CallingInLoop = true
is_noted kind.Unthrown role.Handled = true
is_noted kind.Unthrown role.HandledInside = true
is_noted kind.NothingUndone role.Compensated = true
is_noted kind.Unsent role.Port = true
is_noted kind.OwnSocket role.Dialled = true
is_noted kind.Unset role.Read = true
is_noted kind.Unset role.FieldRead = true
is_noted kind.Unset role.RootTaken = true
is_noted kind.Unread role.Set = true
is_noted kind.Forgotten role.Kept = true
is_noted kind.TreeCut role.RootTaken = true
is_noted kind.LiteralCut role.Flattened = true
is_noted kind.Unanswered role.LeftUnset = true
is_noted kind.NotShared r = is_set r || takes_value r
is_noted kind.AnsweredOnce role.Asked = true
is_noted kind.AnsweredOnce role.Acknowledged = true
is_noted k r = false

-- what meets a name is that it stands in this role too: a scope meets a variable, as its faults stand below its name
abbrev pub is_met : NoteKind → Role → Bool
is_met kind.Unthrown role.Caught = true
is_met kind.Unthrown r = is_free r
is_met kind.NothingUndone role.Undone = true
is_met kind.Unsent role.SentTo = true
is_met kind.CallEndsLoop role.Elsewhere = true
is_met kind.Unset role.Scope = true
is_met kind.Unset role.Undone = true
is_met kind.Unset r = is_set r
is_met kind.Unread r = takes_value r
is_met kind.Forgotten role.Set = true
is_met kind.Forgotten r = takes_value r
is_met kind.TreeCut role.Branched = true
is_met kind.TreeCut role.FieldRead = true
is_met kind.LiteralCut role.Flattened = true
is_met kind.Unanswered role.Set = true
is_met kind.Unanswered role.Kept = true
is_met kind.Unanswered role.Received = true
is_met kind.AnsweredOnce role.TakenInLoop = true
is_met k r = false

-- a port that something is sent to
abbrev pub is_sent : Role → Bool
is_sent role.SentTo = true
is_sent r = false

-- an operation whose answer is a variable
abbrev pub is_asked : Role → Bool
is_asked role.Asked = true
is_asked r = false
