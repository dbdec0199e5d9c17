-- The order service that a load runs.
use Rattle.std.specs.Prelude.{ℕ, List, [], ◌∷◌, codes}
use Rattle.load_maker.specs.Lines.{with_ends}

-- its text: a shop, its stock and its bank
unfoldable pub order_service : List ℕ
order_service = with_ends (
    codes "type Order: void { id: string sku: string n: int price: int }"
    ∷ codes "type Item: void { sku: string n: int }"
    ∷ codes "type Pay: void { id: string amount: int }"
    ∷ codes "interface ShopI { RequestResponse: order(Order)(string) }"
    ∷ codes "interface StockI { RequestResponse: reserve(Item)(int) throws Short, release(Item)(int) }"
    ∷ codes "interface BankI { RequestResponse: pay(Pay)(void) throws NoFunds }"
    ∷ codes "service Shop {"
    ∷ codes "  execution: concurrent"
    ∷ codes "  inputPort In { location: \"socket://localhost:8000\" protocol: jsonrpc interfaces: ShopI }"
    ∷ codes "  outputPort Stock { location: \"local://stock\" interfaces: StockI }"
    ∷ codes "  outputPort Bank { location: \"local://bank\" interfaces: BankI }"
    ∷ codes "  main { order(o)(y) { scope(all) {"
    ∷ codes "    install(Short => y = \"short\", NoFunds => comp(stock) ; y = \"nofunds\") ;"
    ∷ codes "    scope(stock) { reserve@Stock({ sku = o.sku, n = o.n })(left)"
    ∷ codes "      [ this => release@Stock({ sku = o.sku, n = o.n })(left) ] } ;"
    ∷ codes "    pay@Bank({ id = o.id, amount = o.n * o.price })() ;"
    ∷ codes "    y = \"ok \" + left } } }"
    ∷ codes "}"
    ∷ codes "service StockS {"
    ∷ codes "  execution: single"
    ∷ codes "  inputPort In { location: \"local://stock\" interfaces: StockI }"
    ∷ codes "  init { left = 10 }"
    ∷ codes "  main { while (true) { scope(turn) {"
    ∷ codes "    install(Short => nullProcess) ;"
    ∷ codes "    [ reserve(i)(r) { if (i.n > left) { throw(Short) } ; left = left - i.n ; r = left } ] { nullProcess }"
    ∷ codes "    [ release(i)(r) { left = left + i.n ; r = left } ] { nullProcess } } } }"
    ∷ codes "}"
    ∷ codes "service BankS {"
    ∷ codes "  execution: concurrent"
    ∷ codes "  inputPort In { location: \"local://bank\" interfaces: BankI }"
    ∷ codes "  main { pay(p)() { if (p.amount > 100) { throw(NoFunds) } } }"
    ∷ codes "}"
    ∷ [])
