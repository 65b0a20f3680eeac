mod BlockLaws
mod LastLaws
mod ToldLaws
