use Rattle.std.proofs.Common.{◌≡◌, ◌++◌, refl, ap, ◌∙◌, rules}
use Rattle.std.specs.Prelude.{codes}
use Rattle.std.specs.Fmt.{decimal}
use Rattle.httparse.specs.Ascii.{crlf_bytes}
use Rattle.http_link.specs.Requests.{host, path, path_or_root, line}
use Rattle.http_link.proofs.Lines.{pushed}
use Rattle.http_link.proofs.request.head_of.Goals as goal

pub returns : goal.returns
returns c =
    let address = c.args.address.now in
    let path_is : c.path_or_root.result.now ≡ path address = c.path_or_root.ensures ∙ ap path_or_root c.split_path.ensures.rest in
    let length_is : c.as_bytes.result.now ≡ decimal c.args.length = search rules in
    let a = codes "POST " in
    let b = a ++ line (path address) (codes " HTTP/1.1") in
    let d = b ++ line (codes "Host: ") (host address) in
    let e = d ++ line (codes "Content-Type: ") (codes "application/json") in
    let f = e ++ line (codes "Content-Length: ") (decimal c.args.length) in
    let h = f ++ line (codes "Connection: ") (codes "close") in
    let is_b = pushed _ _ a _ _ (path address) (codes " HTTP/1.1") c.in_ok-push_line.ensures c.in_ok-head.ensures.items path_is refl in
    let is_d = pushed _ _ b _ _ (codes "Host: ") (host address) c.in_ok-push_line-2.ensures is_b refl c.split_path.ensures.host in
    let is_e = pushed _ _ d _ _ (codes "Content-Type: ") (codes "application/json") c.in_ok-push_line-3.ensures is_d refl refl in
    let is_f = pushed _ _ e _ _ (codes "Content-Length: ") (decimal c.args.length) c.in_ok-push_line-4.ensures is_e refl length_is in
    let is_h : c.push_line-5.new.head.items ≡ h = pushed _ _ f _ _ (codes "Connection: ") (codes "close") c.in_ok-push_line-5.ensures is_f refl refl in
    c.in_ok-extend_from_slice.ensures.items ∙ ap (λ l. l ++ crlf_bytes) is_h
