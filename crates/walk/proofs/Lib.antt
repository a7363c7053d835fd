mod SumsFall
mod StepsMarked
