-- Lines computed.
use Rattle.std.specs.Prelude.{◌≡◌, negsuc, true, [], ◌∷◌, ◌++◌, codes}
use Rattle.std.proofs.Common.{refl}
use Rattle.std.specs.Fmt.{digits}
use lib.Utf8.{encode}
use Rattle.json.specs.Print.{escape_byte}
use Rattle.jolie_trees.specs.declared.root.Root.TheVariants as root
use Rattle.jolie_trees.specs.Data.{node, no_fields, field, no_trees, tree}
use Rattle.behaviour_tree.specs.declared.words.Outcome.TheVariants as outcome
use Rattle.behaviour_tree.specs.declared.words.Reason.TheVariants as reason
use Rattle.behaviour_tree.specs.declared.words.Kind.TheVariants as kind
use Rattle.office_core.specs.declared.post.PostReply.TheVariants as reply
use Rattle.office_core.specs.declared.history.Act.TheVariants as act
use Rattle.run_text.specs.declared.line.Line.TheVariants as line
use Rattle.run_text.specs.Lines.{line_text}

pub example : Unit {0}
example = tt

a_post : line_text (line.Entry (record {
  actor = 4096;
  act = act.Post 0 0 (record { service = 0; op = codes "go"; value = node (root.Int (negsuc 4)) (field (codes "a") (tree (node (root.Text (codes "x\"y")) no_fields) (tree (node root.Void no_fields) no_trees)) (field (codes "b") (tree (node (root.Bool true) no_fields) no_trees) no_fields)) }) (reply.Accepted 7);
})) ≡ codes "entry 4096 post p 0 0 0 \"go\" i-5{\"a\":[s\"x\\\"y\",v],\"b\":[t]} ok 7\n"
unfolding digits escape_byte
a_post = refl

bytes : line_text (line.Traffic (record { read = 10 ∷ 0 ∷ 255 ∷ 127 ∷ []; written = [] }))
    ≡ codes "traffic \"\\n\\u0000" ++ 195 ∷ 191 ∷ 127 ∷ codes "\" \"\"\n"
unfolding digits escape_byte encode
bytes = refl

an_end : line_text (line.Entry (record { actor = 0; act = act.Reply 3 (outcome.Refused reason.Stopped) })) ≡ codes "entry 0 reply 3 refused -32004\n"
unfolding digits
an_end = refl

an_event : line_text (line.Event 2 (record { strand = 12; kind = kind.EndScope; number = 0; place = 5; fault = 1 })) ≡ codes "event 2 12 EndScope 0 5 1\n"
unfolding digits
an_event = refl
