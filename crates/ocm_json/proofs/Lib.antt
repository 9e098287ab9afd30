mod Opening
mod EachElement
