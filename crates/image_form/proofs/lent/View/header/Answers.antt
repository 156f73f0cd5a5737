use Rattle.std.proofs.Common.{refl, arith}
use Rattle.image_form_sections.specs.declared.section.Section.TheVariants.{Initial, Names}
use Rattle.image_form.proofs.Got.{header_got, bytes_few, few_told}
use Rattle.image_form.proofs.lent.View.header.Goals as goal

pub overflow_cast-result : goal.overflow_cast-result
overflow_cast-result c = let few = bytes_few c.args.self.now in omega (arith, few.1)

pub overflow_cast-result-3 : goal.overflow_cast-result-3
overflow_cast-result-3 c = let few = few_told c.args.self.now c.sections-layout.result.now c.sections-layout.ensures Initial in omega (arith, few)

pub overflow_cast-result-12 : goal.overflow_cast-result-12
overflow_cast-result-12 c = let few = few_told c.args.self.now c.sections-layout.result.now c.sections-layout.ensures Names in omega (arith, few)

pub returns : goal.returns
returns c =
    header_got c.args.self.now c.sections-layout.result.now c.sections-layout.ensures _ (record {
      version = refl;
      size = refl;
      mode = refl;
      zero_is = refl;
      code = c.len.ensures.len;
      initial = refl;
      functions = c.len-2.ensures.len;
      places = c.len-3.ensures.len;
      variables = c.len-4.ensures.len;
      changes = c.len-5.ensures.len;
      flow = c.len-6.ensures.len;
      assigned = c.len-7.ensures.len;
      rows = c.len-8.ensures.len;
      calls = c.len-10.ensures.len;
      members = c.len-11.ensures.len;
      nodes = c.len-9.ensures.len;
      names = refl;
    })
