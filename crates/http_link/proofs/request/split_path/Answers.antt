use Rattle.std.proofs.Common.{ap, ◌∙◌, take, drop}
use Rattle.http_link.specs.Requests.{is_slash}
use Rattle.http_link.proofs.Addresses.{place_of, all_in_front, none_behind}
use Rattle.http_link.proofs.request.split_path.Goals as goal

pub split_at-requires : goal.split_at-requires
split_at-requires c = (place_of is_slash c.args.address.now c.in-Some.at c.in-Some.ensures).1

pub returns-in-Some-clause-host : goal.returns-in-Some-clause-host
returns-in-Some-clause-host c =
    c.split_at.ensures.front ∙ ap (λ n. take n c.args.address.now) (place_of is_slash c.args.address.now c.in-Some.at c.in-Some.ensures).0

pub returns-in-Some-clause-rest : goal.returns-in-Some-clause-rest
returns-in-Some-clause-rest c =
    c.split_at.ensures.back ∙ ap (λ n. drop n c.args.address.now) (place_of is_slash c.args.address.now c.in-Some.at c.in-Some.ensures).0

pub returns-in-None-clause-host : goal.returns-in-None-clause-host
returns-in-None-clause-host c = all_in_front is_slash c.args.address.now c.in-None.ensures

pub returns-in-None-clause-rest : goal.returns-in-None-clause-rest
returns-in-None-clause-rest c = none_behind is_slash c.args.address.now c.in-None.ensures
